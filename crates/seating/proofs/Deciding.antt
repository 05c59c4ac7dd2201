-- Deciding by going through the numbers below a bound.
use Rattle.std.proofs.Common.{ℕ, zero, suc, ◌<◌, ◌≤◌, ◌⊎◌, inl, inr, arith}
use Rattle.std.proofs.lemmas.Bool.{cases_eq, cases_lt}

abbrev pub Either : Type 0 → Type 0
Either A = A ⊎ (A → ⊥)

pub both? : {A B : Type 0} → Either A → Either B → Either (A × B)
both? (inl a) (inl b) = inl (a, b)
both? (inl a) (inr m) = inr (λ p. m p.1)
both? (inr n) b = inr (λ p. n p.0)

pub le? : (m n : ℕ) → Either (m ≤ n)
le? m n = elim (cases_lt n m) [ inl l ↦ inr (λ h. omega arith) | inr l ↦ inl l ]

pub lt? : (m n : ℕ) → Either (m < n)
lt? m n = elim (cases_lt m n) [ inl l ↦ inl l | inr l ↦ inr (λ h. omega arith) ]

-- a number below n
pub some? : (P : ℕ → Type 0) → ((i : ℕ) → Either (P i)) → (n : ℕ) → Either ((i : ℕ) × (i < n) × P i)
some? P d zero = inr (λ r. omega (arith, r.1))
some? P d (suc n) = elim (d n) [
  | inl p ↦ inl (n, omega arith, p)
  | inr m ↦ elim (some? P d n) [
    | inl (i, l, p) ↦ inl (i, omega arith, p)
    | inr m' ↦ inr (λ r. elim (cases_eq r.0 n) [ inl q ↦ m (rw q at r.2) | inr x ↦ m' (r.0, omega (arith, r.1), r.2) ])
  ]
]

-- the least number below n
pub least? : (P : ℕ → Type 0) → ((i : ℕ) → Either (P i)) → (n : ℕ)
    → ((i : ℕ) × P i × ((j : ℕ) → P j → i ≤ j)) ⊎ ((i : ℕ) → i < n → P i → ⊥)
least? P d zero = inr (λ i l. absurd (omega arith))
least? P d (suc n) = elim (least? P d n) [
  | inl r ↦ inl r
  | inr m ↦ elim (d n) [
    | inl p ↦ inl (n, p, λ j q. elim (cases_lt j n) [ inl l ↦ absurd (m j l q) | inr l ↦ l ])
    | inr x ↦ inr (λ i l p. elim (cases_eq i n) [ inl q ↦ x (rw q at p) | inr y ↦ m i (omega arith) p ])
  ]
]
