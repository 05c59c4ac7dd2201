-- Beside a barrier the stash is as empty as it can be.
use Rattle.std.proofs.Common.{◌≡◌, ℕ, zero, suc, ◌+◌, ◌<◌, ◌≤◌, Bool, true, false, cond, not, ◌&&◌, ◌||◌, leb, ◌⊎◌, List, [], ◌∷◌, length, drop, count_by, sym, refl, ap, ◌∙◌, inl, inr, arith, length-drop}
use Rattle.std.proofs.lemmas.List.{take_all}
use Rattle.std.proofs.lemmas.List.Sums.{sum_by-cons}
use Rattle.std.proofs.lemmas.Bool.{false≢true, and_parts, or_cases, leb-true, not-true, leb-false}
use Rattle.std.proofs.lemmas.Bool.Decides.{nat_tests}
use Rattle.seating.specs.Assignments.{Seats, stashed_by}
use Rattle.seating.specs.Layouts.{Key, Value, Content, Layout, bucket_slots, Stash, Candidate, Allowed}
use Rattle.seating.specs.Layouts.Content.{vacant, holding}
use Rattle.seating.specs.Slots.{at, Sits, Held, keys, stashed}
use Rattle.seating.specs.Tables.{Lawful}
use Rattle.seating.proofs.Barriers.{Barrier}
use Rattle.seating.proofs.Counts.{bit, count_same, count_front, count, count_le, pigeon}

-- a slot holds a key that passes p
abbrev pub passing : (Key → Bool) → Content → Bool
passing p vacant = false
passing p (holding k v) = p k

-- the held keys that pass, counted by slots
pub count_keys : (p : Key → Bool) (xs : List Content) → count_by p (keys xs) ≡ count (λ i. passing p (at xs i)) (length xs)
count_keys p [] = refl
count_keys p (vacant ∷ xs) = omega (arith, count_keys p xs, count_front (λ i. passing p (at (vacant ∷ xs) i)) (length xs))
count_keys p (holding k v ∷ xs) =
    let b : cond (p k) 1 0 ≡ bit (p k) = grind arith in
    omega (arith, count_keys p xs, count_front (λ i. passing p (at (holding k v ∷ xs) i)) (length xs), sum_by-cons (λ x. cond (p x) 1 0) k (keys xs))

abbrev own : ℕ → List Content → ℕ → Bool
own n xs i = leb n i && passing (λ _. true) (at xs i)

length_all : (ks : List Key) → length ks ≡ count_by (λ _. true) ks
length_all [] = refl
length_all (k ∷ ks) = omega (arith, length_all ks, sum_by-cons {X = Key} (λ _. 1) k ks)

count_stash : (n : ℕ) (xs : List Content) → length (keys (drop n xs)) ≡ count (own n xs) (length xs)
count_stash zero xs = length_all (keys xs) ∙ count_keys (λ _. true) xs ∙ count_same _ _ (length xs) (λ i l. grind (arith, nat_tests))
count_stash (suc n) [] = refl
count_stash (suc n) (x ∷ xs) =
    let s : count (λ i. own (suc n) (x ∷ xs) (suc i)) (length xs) ≡ count (own n xs) (length xs) = count_same _ _ (length xs) (λ i l. grind (arith, nat_tests)) in
    let z : bit (own (suc n) (x ∷ xs) 0) ≡ 0 = grind (arith, nat_tests) in
    omega (arith, count_stash n xs, count_front (own (suc n) (x ∷ xs)) (length xs))

holder : (p : Key → Bool) (c : Content) → passing p c ≡ true → (k : Key) × ((v : Value) × (c ≡ holding k v))
holder p vacant e = absurd (false≢true e)
holder p (holding k v) e = (k, (v, refl))

in_stash : (L : Layout) (k : Key) (i : ℕ) → bucket_slots L ≤ i → Allowed L k i → Stash L i
in_stash L k i h (inl c) = absurd (omega arith)
in_stash L k i h (inr s) = s

in_bucket : (L : Layout) (k : Key) (i : ℕ) → i < bucket_slots L → Allowed L k i → Candidate L k i
in_bucket L k i h (inl c) = c
in_bucket L k i h (inr s) = absurd (omega arith)

-- the last slots of a table are its stash
stashed_last : (L : Layout) (xs : List Content) → Lawful L xs → stashed L xs ≡ length (keys (drop (bucket_slots L) xs))
stashed_last L xs law =
    ap (λ (ys : List Content). length (keys ys)) (take_all L.stash (drop (bucket_slots L) xs) (rw length-drop (omega (arith, law.whole))))

-- beside a barrier no assignment of the held keys has fewer in the stash
pub barrier_least : (L : Layout) (xs : List Content) (X : ℕ → Bool) → Lawful L xs → Barrier L xs X
    → (f : Key → ℕ) → Seats L (Held xs) f → stashed L xs ≤ stashed_by L f (keys xs)
barrier_least L xs X law bar f seats =
    omega (arith, count_keys goes xs, count_stash low xs, stashed_last L xs law, most, count_le X (own low xs) (λ i. passing goes (at xs i)) P (length xs) parts)
  where
    low : ℕ
    low = bucket_slots L

    goes : Key → Bool
    goes k = leb low (f k)

    P : ℕ → Bool
    P i = (X i || own low xs i) && not (passing goes (at xs i))

    parts : (i : ℕ) → i < length xs → bit (X i) + bit (own low xs i) ≤ bit (passing goes (at xs i)) + bit (P i)
    parts i l = grind (arith, nat_tests, bar.low i)

    -- a key of the barrier or the stash has its candidates in the barrier
    kept : (i : ℕ) → X i || own low xs i ≡ true → (k : Key) × Sits xs k i × ((X i ≡ true) ⊎ Stash L i)
    kept i e = elim (or_cases (X i) _ e) [
      | inl x ↦ (let o = bar.full i x in (o.0, o.1, inl x))
      | inr o ↦ (let a = and_parts (leb low i) _ o in let h = holder (λ _. true) (at xs i) a.1 in
          (h.0, h.1, inr (in_stash L h.0 i (leb-true _ _ a.0) (law.placed h.0 i h.1))))
    ]

    most : count P (length xs) ≤ count X (length xs)
    most = pigeon (length xs) (length xs) P X (λ i j. (h : Key) × Sits xs h i × (f h ≡ j))
        (λ i l c. let a = and_parts (X i || own low xs i) _ c in let (k, s, w) = kept i a.0 in
        let under = leb-false _ _ (not-true _ (rw s.1 at a.1)) in
        let to = in_bucket L k (f k) under (seats.allowed k (i, s)) in
        (f k, omega (arith, law.whole), bar.shut k i (f k) w s to, (k, s, refl)))
        (λ i i' j l l' r r'. law.once r'.0 i i' (rw (seats.apart r.0 r'.0 (i, r.1) (i', r'.1) (r.2 ∙ sym r'.2)) at r.1) r'.1)
