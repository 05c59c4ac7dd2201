-- Paths with no slot twice.
use Rattle.std.proofs.Common.{ℕ, ◌<◌, ◌≤◌, ◌⊎◌, List, [], ◌∷◌, length, inl, inr, arith}
use mathlib.Core.List.Memᴰ
use mathlib.Core.List.{Memᴰ}
use Rattle.std.proofs.lemmas.Bool.{cases_eq}
use Rattle.seating.specs.Layouts.{Key, Content, Layout, bucket_slots}
use Rattle.seating.specs.Paths.{Path, CuckooPath, Distinct}
use Rattle.seating.specs.Paths.Path.{last, next}

pub mem? : (a : ℕ) (is : List ℕ) → Memᴰ a is ⊎ (Memᴰ a is → ⊥)
mem? a [] = inr Memᴰ.not-nil
mem? a (i ∷ is) = elim (cases_eq a i) [
  | inl e ↦ inl (Memᴰ.head e)
  | inr n ↦ elim (mem? a is) [
    | inl q ↦ inl (Memᴰ.tail q)
    | inr m ↦ inr (λ q. elim (Memᴰ.cases_cons q) [ inl e ↦ n e | inr q' ↦ m q' ])
  ]
]

-- some path with no slot twice
abbrev pub Route : (Key → ℕ → Type 0) → List Content → Key → Type 0
Route May ys k = (is : List ℕ) × Path May ys k is × Distinct is

-- from a slot of a path on
pub shorter : {May : Key → ℕ → Type 0} {ys : List Content} {h : Key} {is : List ℕ} (k : Key) (a : ℕ)
    → Path May ys h is → Distinct is → Memᴰ a is → May k a → Route May ys k
shorter k a (last {i = i} m e) d q may = (i ∷ [], last (rw (Memᴰ.eq_of_singleton q) at may) e, d)
shorter k a (next {i = i} {is = is} m s r) d q may = elim (Memᴰ.cases_cons q)
    [ inl e ↦ (i ∷ is, next (rw e at may) s r, d) | inr q' ↦ shorter k a r d.1 q' may ]

pub loopless : {May : Key → ℕ → Type 0} {xs : List Content} (k : Key) {is : List ℕ} → Path May xs k is → Route May xs k
loopless k (last {i = i} m e) = (i ∷ [], last m e, (Memᴰ.not-nil, tt))
loopless k (next {h = h} {i = i} m s r) = let (js, ch, d) = loopless h r in
    elim (mem? i js) [ inl q ↦ shorter k i ch d q m | inr n ↦ (i ∷ js, next m s ch, (n, d)) ]

cut : {May : Key → ℕ → Type 0} {xs : List Content} {h : Key} {is : List ℕ} (k : Key) (a : ℕ)
    → Path May xs h is → Memᴰ a is → May k a → (js : List ℕ) × Path May xs k js × (length js ≤ length is)
cut k a (last {i = i} m e) q may = (i ∷ [], last (rw (Memᴰ.eq_of_singleton q) at may) e, omega arith)
cut k a (next {i = i} {is = is} m s r) q may = elim (Memᴰ.cases_cons q) [
  | inl e ↦ (i ∷ is, next (rw e at may) s r, omega arith)
  | inr q' ↦ (let c = cut k a r q' may in (c.0, c.1, omega arith))
]

-- a shortest path has no slot twice
pub shortest_distinct : {May : Key → ℕ → Type 0} {xs : List Content} (k : Key) (is : List ℕ)
    → Path May xs k is → ((js : List ℕ) → Path May xs k js → length is ≤ length js) → Distinct is
shortest_distinct k [] ch least = tt
shortest_distinct k (i ∷ is) (last m e) least = (Memᴰ.not-nil, tt)
shortest_distinct k (i ∷ is) (next {h = h} m s r) least = (
  λ q. (let c = cut k i r q m in let l = least c.0 c.1 in omega arith),
  shortest_distinct h is r (λ js c. (let l = least (i ∷ js) (next m s c) in omega arith)),
)

pub low_path : (L : Layout) {xs : List Content} {k : Key} {is : List ℕ} → CuckooPath L xs k is → (i : ℕ) → Memᴰ i is → i < bucket_slots L
low_path L (last m e) i q = rw (Memᴰ.eq_of_singleton q) m.0
low_path L (next m s r) i q = elim (Memᴰ.cases_cons q) [ inl e ↦ rw e m.0 | inr q' ↦ low_path L r i q' ]
