-- Counting the numbers below a bound that pass a test, and pigeons for it.
use Rattle.std.proofs.Common.{◌≡◌, ℕ, zero, suc, ◌+◌, ◌<◌, ◌≤◌, Bool, true, false, not, ◌&&◌, eqb, ltb, ◌⊎◌, refl, ap, inl, inr, zero-le, arith}
use Rattle.std.proofs.lemmas.Bool.Decides.{nat_tests}
use Rattle.std.proofs.lemmas.Bool.{cases_Bool, cases_eq, both_ways, and_from, not_from_false, ne_eqb, lt-ltb}

abbrev pub bit : Bool → ℕ
bit true = 1
bit false = 0

-- how many numbers below n pass P
abbrev pub count : (ℕ → Bool) → ℕ → ℕ
count P zero = 0
count P (suc n) = bit (P n) + count P n

abbrev pub without : (ℕ → Bool) → ℕ → ℕ → Bool
without Q j i = Q i && not (eqb i j)

pub count_without : (Q : ℕ → Bool) (j n : ℕ) → count Q n ≡ bit (ltb j n && Q j) + count (without Q j) n
count_without Q j zero = grind (arith, nat_tests)
count_without Q j (suc n) = let h = count_without Q j n in grind (arith, nat_tests)

pub count_le : (A B P Q : ℕ → Bool) (n : ℕ) → ((i : ℕ) → i < n → bit (A i) + bit (B i) ≤ bit (P i) + bit (Q i))
    → count A n + count B n ≤ count P n + count Q n
count_le A B P Q zero h = omega arith
count_le A B P Q (suc n) h = let r = count_le A B P Q n (λ i l. h i (omega arith)) in let s = h n (omega arith) in omega arith

pub count_same : (P Q : ℕ → Bool) (n : ℕ) → ((i : ℕ) → i < n → P i ≡ Q i) → count P n ≡ count Q n
count_same P Q zero h = refl
count_same P Q (suc n) h = omega (arith, count_same P Q n (λ i l. h i (omega arith)), ap bit (h n (omega arith)))

pub count_front : (P : ℕ → Bool) (n : ℕ) → count P (suc n) ≡ bit (P 0) + count (λ i. P (suc i)) n
count_front P zero = refl
count_front P (suc n) = omega (arith, count_front P n)

-- a relation that takes each number below n in P to one below m in Q, and no two to the same
pub pigeon : (n m : ℕ) (P Q : ℕ → Bool) (R : ℕ → ℕ → Type 0)
    → ((i : ℕ) → i < n → P i ≡ true → (j : ℕ) × (j < m) × (Q j ≡ true) × R i j)
    → ((i i' j : ℕ) → i < n → i' < n → R i j → R i' j → i ≡ i')
    → count P n ≤ count Q m
pigeon zero m P Q R total single = zero-le
pigeon (suc n) m P Q R total single =
    elim (cases_Bool (P n)) [
      | inl in' ↦
          (let top = total n (omega arith) in' in
          let r = pigeon n m P (without Q top.0) R
          (λ i l p. let t = total i (omega arith) p in
          (t.0, t.1, and_from (Q t.0) _ t.2 (not_from_false _ (ne_eqb _ _ (λ e. (let same : i ≡ n = single i n top.0 (omega arith) (omega arith) (rw e at t.3) top.3 in omega arith)))), t.3))
          (λ i i' j l l'. single i i' j (omega arith) (omega arith)) in
          omega (arith, ap bit in', count_without Q top.0 m, ap bit (and_from _ _ (lt-ltb _ _ top.1) top.2)))
      | inr out' ↦
          (let r = pigeon n m P Q R (λ i l. total i (omega arith)) (λ i i' j l l'. single i i' j (omega arith) (omega arith)) in
          omega (arith, ap bit out'))
    ]

pub all_count : (n : ℕ) → count (λ _. true) n ≡ n
all_count zero = refl
all_count (suc n) = omega (arith, all_count n)

-- one more passes Q than P, or the same
pub differ : (P Q : ℕ → Bool) (n : ℕ) → ((i : ℕ) → P i ≡ true → Q i ≡ true)
    → ((i : ℕ) → i < n → Q i ≡ true → P i ≡ true) ⊎ (suc (count P n) ≤ count Q n)
differ P Q zero up = inl (λ i l. absurd (omega arith))
differ P Q (suc n) up = elim (differ P Q n up) [
  | inr more ↦ inr (omega (arith, rises))
  | inl eq ↦ elim (cases_Bool (Q n)) [
    | inr q ↦ inl (λ i l e. elim (cases_eq i n) [ inl s ↦ absurd (both_ways (Q n) q (rw s at e)) | inr m ↦ eq i (omega arith) e ])
    | inl q ↦ elim (cases_Bool (P n)) [
      | inl p ↦ inl (λ i l e. elim (cases_eq i n) [ inl s ↦ rw s p | inr m ↦ eq i (omega arith) e ])
      | inr p ↦ inr (omega (arith, ap bit p, ap bit q, le n))
    ]
  ]
]
  where
    bit_le : (a b : Bool) → (a ≡ true → b ≡ true) → bit a ≤ bit b
    bit_le true b h = omega (arith, ap bit (h refl))
    bit_le false b h = omega arith

    rises : bit (P n) ≤ bit (Q n)
    rises = bit_le (P n) (Q n) (up n)

    le : (m : ℕ) → count P m ≤ count Q m
    le zero = omega arith
    le (suc m) = omega (arith, le m, bit_le (P m) (Q m) (up m))

pub count_all : (P : ℕ → Bool) (n : ℕ) → (count P n ≤ n) × (n ≤ count P n → (i : ℕ) → i < n → P i ≡ true)
count_all P zero = (omega arith, λ _ i l. absurd (omega arith))
count_all P (suc n) = let r = count_all P n in elim (cases_Bool (P n)) [
  | inl e ↦ (omega (arith, ap bit e), λ m i l. elim (cases_eq i n) [ inl s ↦ rw s e | inr x ↦ r.1 (omega (arith, ap bit e)) i (omega arith) ])
  | inr e ↦ (omega (arith, ap bit e), λ m i l. absurd (omega (arith, ap bit e)))
]
