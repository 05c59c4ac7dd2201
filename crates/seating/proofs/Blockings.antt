-- The blocking set is what the key can reach by moving held keys about, and the least set of its kind.
use Rattle.std.proofs.Common.{◌≡◌, ℕ, zero, suc, ◌/◌, ◌<◌, ◌≤◌, Bool, true, ◌&&◌, ◌||◌, eqb, ltb, ◌⊎◌, ◌↔◌, List, refl, inl, inr, arith}
use mathlib.Core.List.{Memᴰ}
use Rattle.std.proofs.lemmas.Bool.{cases_eq, or_cases, or_left, or_right, and_parts, and_from, false≢true, ltb-true, lt-ltb, leb-true, le-leb}
use Rattle.seating.specs.Blocking.{some_of, allows, goes, slots_where, rounds, blocking, Blocks}
use Rattle.seating.specs.Layouts.{Key, Value, Content, Layout, bucket_slots, slots, Allowed}
use Rattle.seating.specs.Layouts.Content.{vacant, holding}
use Rattle.seating.specs.Slots.{at, Sits}
use Rattle.seating.specs.Theorems.{Ascending, BlockingLeast}
use Rattle.seating.proofs.Counts.{count, differ, count_all}
use Rattle.seating.proofs.Listing.{some_in, in_some, among_in, in_among, listed_in, in_listed, listed_ascends}
use Rattle.seating.proofs.Sitting.{in_slots}

-- the slots that a key can come to by moving held keys about
pub data Reach (L : Layout) (xs : List Content) (k : Key) : ℕ → Type 0 where
  start : {i : ℕ} → Allowed L k i → Reach L xs k i
  onward : {h : Key} {i j : ℕ} → Reach L xs k i → Sits xs h i → Allowed L h j → Reach L xs k j

pub allows_may : (L : Layout) (k : Key) (i : ℕ) → i < slots L → allows L k i ≡ true → Allowed L k i
allows_may L k i l e = elim (or_cases (ltb i (bucket_slots L) && some_of (eqb (i / L.width)) (L.choices k)) _ e) [
  | inl q ↦ (let p = and_parts (ltb i (bucket_slots L)) _ q in inl (ltb-true _ _ p.0, among_in _ _ p.1))
  | inr q ↦ inr (leb-true _ _ q, l)
]

may_allows : (L : Layout) (k : Key) (i : ℕ) → Allowed L k i → allows L k i ≡ true
may_allows L k i (inl c) = or_left _ _ (and_from _ _ (lt-ltb _ _ c.0) (in_among _ _ c.1))
may_allows L k i (inr s) = or_right (ltb i (bucket_slots L) && some_of (eqb (i / L.width)) (L.choices k)) _ (le-leb _ _ s.0)

moves : (L : Layout) (c : Content) (i : ℕ) → i < slots L → goes L c i ≡ true → (h : Key) × ((v : Value) × (c ≡ holding h v)) × Allowed L h i
moves L vacant i l e = absurd (false≢true e)
moves L (holding h v) i l e = (h, (v, refl), allows_may L h i l e)

module _ (L : Layout) (xs : List Content) (k : Key) where
  abbrev first : List ℕ
  first = slots_where L (allows L k)

  -- slot i is reached within n moves
  abbrev within : ℕ → ℕ → Bool
  within n i = some_of (eqb i) (rounds L xs n first)

  pub reach_low : (i : ℕ) → Reach L xs k i → i < slots L
  reach_low i (start m) = in_slots L k i m
  reach_low i (onward {h = h} r s m) = in_slots L h i m

  -- what one round adds
  added : (n i : ℕ) → within (suc n) i ≡ true
      → (i < slots L) × ((within n i ≡ true) ⊎ ((j : ℕ) × (within n j ≡ true) × (goes L (at xs j) i ≡ true)))
  added n i e =
      let r = listed_in (λ i. within n i || some_of (λ j. goes L (at xs j) i) (rounds L xs n first)) 0 (slots L) i (among_in _ i e) in (
        omega (arith, r.1),
        elim (or_cases (within n i) _ r.2) [
          | inl q ↦ inl q
          | inr q ↦ (let (j, m, g) = some_in (λ j. goes L (at xs j) i) _ q in inr (j, in_among _ j m, g))
        ],
      )

  adds : (n i : ℕ) → i < slots L → (within n i ≡ true) ⊎ ((j : ℕ) × (within n j ≡ true) × (goes L (at xs j) i ≡ true)) → within (suc n) i ≡ true
  adds n i l w = in_among _ i (in_listed (λ i. within n i || some_of (λ j. goes L (at xs j) i) (rounds L xs n first)) 0 (slots L) i
      (omega arith) (omega arith) (elim w [
        | inl q ↦ or_left _ _ q
        | inr (j, q, g) ↦ or_right (within n i) _ (in_some (λ j. goes L (at xs j) i) _ j (among_in _ j q) g)
      ]))

  sound : (n i : ℕ) → within n i ≡ true → Reach L xs k i
  sound zero i e = let r = listed_in (allows L k) 0 (slots L) i (among_in _ i e) in start (allows_may L k i (omega (arith, r.1)) r.2)
  sound (suc n) i e = let (l, w) = added n i e in elim w [
    | inl q ↦ sound n i q
    | inr (j, q, g) ↦ (let (h, s, m) = moves L (at xs j) i l g in onward (sound n j q) s m)
  ]

  up : (n i : ℕ) → within n i ≡ true → within (suc n) i ≡ true
  up n i e = adds n i (reach_low i (sound n i e)) (inl e)

  rise : (n m i : ℕ) → n ≤ m → within n i ≡ true → within m i ≡ true
  rise n zero i l e = let z : n ≡ 0 = omega arith in rw z at e
  rise n (suc m) i l e = elim (cases_eq n (suc m)) [ inl q ↦ rw q at e | inr x ↦ up m i (rise n m i (omega arith) e) ]

  abbrev Stable : ℕ → Type 0
  Stable m = (i : ℕ) → i < slots L → within (suc m) i ≡ true → within m i ≡ true

  -- a round that adds nothing is the last that matters
  stays : (m : ℕ) → Stable m → (n i : ℕ) → within n i ≡ true → within m i ≡ true
  stays m st zero i e = rise 0 m i (omega arith) e
  stays m st (suc n) i e = let (l, w) = added n i e in st i l (adds m i l (elim w
      [ inl q ↦ inl (stays m st n i q) | inr (j, q, g) ↦ inr (j, stays m st n j q, g) ]))

  settles : (n : ℕ) → ((m : ℕ) × (m ≤ n) × Stable m) ⊎ (n ≤ count (within n) (slots L))
  settles zero = inr (omega arith)
  settles (suc n) = elim (settles n) [
    | inl (m, l, s) ↦ inl (m, omega arith, s)
    | inr c ↦ elim (differ (within n) (within (suc n)) (slots L) (up n))
        [ inl s ↦ inl (n, omega arith, s) | inr more ↦ inr (omega arith) ]
  ]

  whole : (n i : ℕ) → within n i ≡ true → within (slots L) i ≡ true
  whole n i e = elim (settles (slots L)) [
    | inl (m, l, s) ↦ rise m (slots L) i l (stays m s n i e)
    | inr c ↦ (count_all (within (slots L)) (slots L)).1 c i (reach_low i (sound n i e))
  ]

  complete : (i : ℕ) → Reach L xs k i → (n : ℕ) × (within n i ≡ true)
  complete i (start m) = (0, in_among _ i (in_listed (allows L k) 0 (slots L) i (omega arith) (omega (arith, in_slots L k i m)) (may_allows L k i m)))
  complete i (onward {h = h} {i = j} r s m) = let (n, e) = complete j r in
      (suc n, adds n i (in_slots L h i m) (inr (j, e, rw s.1 (may_allows L h i m))))

  pub blocking_reached : (i : ℕ) → Memᴰ i (blocking L xs k) ↔ Reach L xs k i
  blocking_reached i = (
    (λ q. sound (slots L) i (in_among _ i q)),
    (λ r. let (n, e) = complete i r in among_in _ i (whole n i e)),
  )

  ascends : (n : ℕ) → Ascending (rounds L xs n first)
  ascends zero = listed_ascends (allows L k) 0 (slots L)
  ascends (suc n) = listed_ascends (λ i. within n i || some_of (λ j. goes L (at xs j) i) (rounds L xs n first)) 0 (slots L)

  -- a set that blocks has every slot that is reached
  reach_in : (D : ℕ → Bool) → Blocks L xs k (λ i. D i ≡ true) → (i : ℕ) → Reach L xs k i → D i ≡ true
  reach_in D b i (start (inl c)) = b.near i c
  reach_in D b i (start (inr s)) = b.stash i s
  reach_in D b i (onward {h = h} {i = j} r s (inl c)) = b.onward h j i (reach_in D b j r) s c
  reach_in D b i (onward r s (inr t)) = b.stash i t

pub blocking_least_lem : BlockingLeast
blocking_least_lem L xs k = record {
  blocks = record {
    near = λ i c. (blocking_reached L xs k i).1 (start (inl c));
    stash = λ i s. (blocking_reached L xs k i).1 (start (inr s));
    onward = λ h i j m s c. (blocking_reached L xs k j).1 (onward ((blocking_reached L xs k i).0 m) s (inl c));
  };
  least = λ D b i m. reach_in L xs k D b i ((blocking_reached L xs k i).0 m);
  ascends = ascends L xs k (slots L);
}
