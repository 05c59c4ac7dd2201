-- One more slot counted, and one more slot emptied.
use Rattle.std.proofs.Common.{◌≡◌, ℕ, zero, suc, ◌+◌, ◌-◌, ◌<◌, Bool, true, false, not, cond, filter, get_or, MatchOption, Option, Some, None, List, [], ◌∷◌, ◌++◌, length, take, drop, set, replicate, sym, refl, ap, ◌∙◌, add-one, arith, length-append, get_or-drop, drop-cons}
use lib.ListN.{length-replicate}
use Rattle.std.specs.List.{range_with_len, AllWithin, HoldsAt}
use Rattle.std.proofs.lemmas.List.FromFn.{length-range_with_len, get_or-range_with_len}
use lib.Seq.{set_at, append_snoc}
use Rattle.std.proofs.lemmas.List.{replicate_more}
use Rattle.std.proofs.lemmas.Bool.{both_ways}
use Rattle.seating.specs.Layouts.{Content, Layout, bucket_slots, Stash}
use Rattle.seating.specs.Layouts.Content.{vacant, holding}
use Rattle.seating.specs.Slots.{at, keys}
use Rattle.table.specs.Shapes.{is_vacant}
use Rattle.table.proofs.Ranges.{filter_more}

pub vacant_if : (c : Content) → is_vacant c ≡ true → c ≡ vacant
vacant_if vacant e = refl
vacant_if (holding k v) e = cc

pub held_if : (c : Content) → is_vacant c ≡ false → c ≡ vacant → ⊥
held_if c f e = let t : is_vacant c ≡ true = rw e refl in both_ways _ f t

-- how many keys a slot holds
abbrev weight : Content → ℕ
weight vacant = 0
weight (holding k v) = 1

taken_more : (n : ℕ) (xs : List Content) → length (keys (take (suc n) xs)) ≡ length (keys (take n xs)) + weight (at xs n)
taken_more zero [] = refl
taken_more (suc n) [] = refl
taken_more zero (vacant ∷ xs) = refl
taken_more zero (holding k v ∷ xs) = refl
taken_more (suc n) (vacant ∷ xs) = taken_more n xs
taken_more (suc n) (holding k v ∷ xs) = omega (arith, taken_more n xs)

-- how many of the n slots from a on hold a key
abbrev pub held_from : List Content → ℕ → ℕ → ℕ
held_from xs a n = length (keys (take n (drop a xs)))

held_more : (xs : List Content) (a n : ℕ) → held_from xs a (n + 1) ≡ held_from xs a n + weight (at xs (a + n))
held_more xs a n = rw (add-one n) (taken_more n (drop a xs) ∙ ap (λ c. held_from xs a n + weight c) (get_or-drop a xs n vacant))

abbrev pub holds : List Content → ℕ → Bool
holds xs i = not (is_vacant (at xs i))

holds_one : (c : Content) (i : ℕ) → length (cond (not (is_vacant c)) (i ∷ []) []) ≡ weight c
holds_one vacant i = refl
holds_one (holding k v) i = refl

-- the held slots of a range, counted
pub held_count : (xs : List Content) (a n : ℕ) → length (filter (holds xs) (range_with_len a n)) ≡ held_from xs a n
held_count xs a zero = refl
held_count xs a (suc n) =
    let e = simp length-append at (ap length (filter_more (holds xs) a n (a + n) refl)) in
    let more : length (filter (holds xs) (range_with_len a (n + 1))) ≡ held_from xs a (n + 1) =
    omega (arith, e, held_count xs a n, held_more xs a n, holds_one (at xs (a + n)) (a + n)) in
    rw (add-one n) at more

-- what a search of the stash found first, by the numbers that it went through
pub first_in : (L : Layout) (xs : List Content) (a n : ℕ) (r : Option ℕ) → a ≡ bucket_slots L → n ≡ L.stash
    → MatchOption r (AllWithin (λ i. is_vacant (at xs i) ≡ false) (range_with_len a n) 0 (length (range_with_len a n)))
    (λ x. (is_vacant (at xs x) ≡ true) × (i : ℕ) × (i < length (range_with_len a n)) × HoldsAt (λ y. y ≡ x) (range_with_len a n) i × AllWithin (λ i. is_vacant (at xs i) ≡ false) (range_with_len a n) 0 i)
    → MatchOption r ((i : ℕ) → Stash L i → at xs i ≡ vacant → ⊥) (λ i. Stash L i × (at xs i ≡ vacant))
first_in L xs a n None ea en w = λ i s.
    let e : get_or (range_with_len a n) (i - a) 0 ≡ i = get_or-range_with_len a n (i - a) 0 (omega (arith, s)) ∙ omega (arith, s) in
    held_if _ (rw e at (w (i - a) 0 (omega arith) (omega (arith, s, length-range_with_len a n))))
first_in L xs a n (Some x) ea en (e, i, l, h, w) =
    let is : x ≡ a + i = sym (h 0) ∙ get_or-range_with_len a n i 0 (omega (arith, length-range_with_len a n)) in
    ((omega arith, omega (arith, length-range_with_len a n)), vacant_if _ e)

-- the slots with the first n empty
abbrev pub emptied : ℕ → List Content → List Content
emptied n xs = replicate n vacant ++ drop n xs

pub emptied_more : (n : ℕ) (xs : List Content) → n < length xs → set (emptied n xs) n vacant ≡ emptied (n + 1) xs
emptied_more n xs h =
    ap (λ t. set (replicate n vacant ++ t) n vacant) (drop-cons xs n vacant h)
    ∙ set_at (replicate n vacant) (at xs n) (drop (suc n) xs) vacant n (length-replicate n vacant)
    ∙ sym (append_snoc (replicate n vacant) vacant (drop (suc n) xs))
    ∙ ap (λ t. t ++ drop (suc n) xs) (replicate_more n vacant)
    ∙ ap (λ m. replicate (n + 1) vacant ++ drop m xs) (sym (add-one n))
