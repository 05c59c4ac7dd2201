-- Numbers that pass a test, listed in ascending order, and tests over a list.
use Rattle.std.proofs.Common.{◌≡◌, ℕ, zero, suc, ◌+◌, ◌<◌, ◌≤◌, Bool, true, false, eqb, List, [], ◌∷◌, filter, sym, refl, inl, inr, arith}
use mathlib.Core.List.{Memᴰ}
use Rattle.std.specs.List.{range_with_len, AllByRecursion}
use Rattle.std.proofs.lemmas.Bool.{cases_eq, cases_Bool, or_cases, or_left, or_right, false≢true, eqb-true, eq-eqb}
use Rattle.seating.specs.Blocking.{some_of}
use Rattle.seating.specs.Theorems.{Ascending}

pub some_in : (P : ℕ → Bool) (cs : List ℕ) → some_of P cs ≡ true → (c : ℕ) × Memᴰ c cs × (P c ≡ true)
some_in P [] e = absurd (false≢true e)
some_in P (c ∷ cs) e = elim (or_cases (P c) _ e)
    [ inl q ↦ (c, mathlib.Core.List.Memᴰ.head refl, q) | inr q ↦ (let r = some_in P cs q in (r.0, mathlib.Core.List.Memᴰ.tail r.1, r.2)) ]

pub in_some : (P : ℕ → Bool) (cs : List ℕ) (c : ℕ) → Memᴰ c cs → P c ≡ true → some_of P cs ≡ true
in_some P [] c m e = absurd (mathlib.Core.List.Memᴰ.not-nil m)
in_some P (d ∷ cs) c m e = elim (mathlib.Core.List.Memᴰ.cases_cons m)
    [ inl q ↦ or_left _ _ (rw q at e) | inr q ↦ or_right (P d) _ (in_some P cs c q e) ]

-- a number is one of a list, as a test
pub among_in : (cs : List ℕ) (i : ℕ) → some_of (eqb i) cs ≡ true → Memᴰ i cs
among_in cs i e = let (c, m, q) = some_in (eqb i) cs e in rw (eqb-true i c q) m

pub in_among : (cs : List ℕ) (i : ℕ) → Memᴰ i cs → some_of (eqb i) cs ≡ true
in_among cs i m = in_some (eqb i) cs i m (eq-eqb i i refl)

pub listed_in : (P : ℕ → Bool) (a m i : ℕ) → Memᴰ i (filter P (range_with_len a m)) → (a ≤ i) × (i < a + m) × (P i ≡ true)
listed_in P a zero i q = absurd (mathlib.Core.List.Memᴰ.not-nil q)
listed_in P a (suc m) i q = elim (cases_Bool (P a)) [
  | inl e ↦ (let q' : Memᴰ i (a ∷ filter P (range_with_len (a + 1) m)) = rw e at q in
      elim (mathlib.Core.List.Memᴰ.cases_cons q') [
        | inl s ↦ (omega arith, omega arith, rw s e)
        | inr t ↦ (let r = listed_in P (a + 1) m i t in (omega arith, omega arith, r.2))
      ])
  | inr e ↦ (let q' : Memᴰ i (filter P (range_with_len (a + 1) m)) = rw e at q in
      let r = listed_in P (a + 1) m i q' in (omega arith, omega arith, r.2))
]

pub in_listed : (P : ℕ → Bool) (a m i : ℕ) → a ≤ i → i < a + m → P i ≡ true → Memᴰ i (filter P (range_with_len a m))
in_listed P a zero i l u p = absurd (omega arith)
in_listed P a (suc m) i l u p = elim (cases_eq i a) [
  | inl s ↦ (let e : P a ≡ true = rw s at p in rw e (mathlib.Core.List.Memᴰ.head s))
  | inr n ↦ (let t = in_listed P (a + 1) m i (omega arith) (omega arith) p in
      elim (cases_Bool (P a)) [ inl e ↦ rw e (mathlib.Core.List.Memᴰ.tail t) | inr e ↦ rw e t ])
]

all_members : (P : ℕ → Type 0) (cs : List ℕ) → ((c : ℕ) → Memᴰ c cs → P c) → AllByRecursion P cs
all_members P [] h = tt
all_members P (c ∷ cs) h = (h c (mathlib.Core.List.Memᴰ.head refl), all_members P cs (λ d m. h d (mathlib.Core.List.Memᴰ.tail m)))

pub listed_ascends : (P : ℕ → Bool) (a m : ℕ) → Ascending (filter P (range_with_len a m))
listed_ascends P a zero = tt
listed_ascends P a (suc m) = elim (cases_Bool (P a)) [
  | inl e ↦ rw e (all_members (λ d. a < d) _ (λ d q. omega (arith, (listed_in P (a + 1) m d q).0)), listed_ascends P (a + 1) m)
  | inr e ↦ rw e (listed_ascends P (a + 1) m)
]

pub listed_same : (P Q : ℕ → Bool) (a m : ℕ) → ((i : ℕ) → a ≤ i → i < a + m → P i ≡ Q i)
    → filter P (range_with_len a m) ≡ filter Q (range_with_len a m)
listed_same P Q a zero h = refl
listed_same P Q a (suc m) h =
    rw (h a (omega arith) (omega arith), listed_same P Q (a + 1) m (λ i l u. h i (omega arith) (omega arith)))

pub agree : (a b : Bool) → (a ≡ true → b ≡ true) → (b ≡ true → a ≡ true) → a ≡ b
agree true b f g = sym (f refl)
agree false true f g = g refl
agree false false f g = refl

all_in : (P : ℕ → Type 0) (cs : List ℕ) → AllByRecursion P cs → (c : ℕ) → Memᴰ c cs → P c
all_in P [] h c m = absurd (mathlib.Core.List.Memᴰ.not-nil m)
all_in P (d ∷ cs) h c m = elim (mathlib.Core.List.Memᴰ.cases_cons m) [ inl e ↦ rw e h.0 | inr q ↦ all_in P cs h.1 c q ]

first_least : (c : ℕ) (cs : List ℕ) → Ascending (c ∷ cs) → (d : ℕ) → Memᴰ d (c ∷ cs) → c ≤ d
first_least c cs a d m = elim (mathlib.Core.List.Memᴰ.cases_cons m) [ inl e ↦ omega arith | inr q ↦ omega (arith, all_in (λ d. c < d) cs a.0 d q) ]

-- a member behind the first is not the first
later : (c d : ℕ) (cs ds : List ℕ) → Ascending (c ∷ cs) → d ≡ c → (i : ℕ) → Memᴰ i cs → Memᴰ i (d ∷ ds) → Memᴰ i ds
later c d cs ds a e i m q = elim (mathlib.Core.List.Memᴰ.cases_cons q)
    [ inl x ↦ absurd (omega (arith, all_in (λ z. c < z) cs a.0 i m)) | inr y ↦ y ]

-- ascending lists with the same members are the same
pub ascending_same : (cs ds : List ℕ) → Ascending cs → Ascending ds → ((i : ℕ) → Memᴰ i cs → Memᴰ i ds)
    → ((i : ℕ) → Memᴰ i ds → Memᴰ i cs) → cs ≡ ds
ascending_same [] [] a b f g = refl
ascending_same [] (d ∷ ds) a b f g = absurd (mathlib.Core.List.Memᴰ.not-nil (g d (mathlib.Core.List.Memᴰ.head refl)))
ascending_same (c ∷ cs) [] a b f g = absurd (mathlib.Core.List.Memᴰ.not-nil (f c (mathlib.Core.List.Memᴰ.head refl)))
ascending_same (c ∷ cs) (d ∷ ds) a b f g =
    let e : c ≡ d = omega (arith, first_least c cs a d (g d (mathlib.Core.List.Memᴰ.head refl)), first_least d ds b c (f c (mathlib.Core.List.Memᴰ.head refl))) in
    rw (
      e,
      ascending_same cs ds a.1 b.1
          (λ i m. later c d cs ds a (sym e) i m (f i (mathlib.Core.List.Memᴰ.tail m)))
          (λ i m. later d c ds cs b e i m (g i (mathlib.Core.List.Memᴰ.tail m))),
    ) refl
