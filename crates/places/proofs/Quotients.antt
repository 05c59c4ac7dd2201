-- Digits of a word by repeated division.
use Rattle.std.proofs.Common.{◌≡◌, ℕ, ◌*◌, ◌/◌, ◌%◌, ◌^◌, sym, ap, ◌∙◌, one-mul, pow-suc, div-one}
use native.Mathlib.Nat.{pow-zero, div-div-eq-div-mul}
use Rattle.places.specs.Rules.{digit}

pow_one : (n : ℕ) → n ^ 1 ≡ n
pow_one n = pow-suc n 0 ∙ ap (λ (m : ℕ). m * n) (pow-zero n) ∙ one-mul n

pub digit_zero : (n h : ℕ) → h % n ≡ digit n h 0
digit_zero n h = ap (λ (q : ℕ). q % n) (sym (div-one h) ∙ ap (λ (m : ℕ). h / m) (sym (pow-zero n)))

pub digit_one : (n h : ℕ) → h / n % n ≡ digit n h 1
digit_one n h = ap (λ (m : ℕ). h / m % n) (sym (pow_one n))

pub digit_two : (n h : ℕ) → h / n / n % n ≡ digit n h 2
digit_two n h =
    ap (λ (q : ℕ). q % n) (div-div-eq-div-mul h n n ∙ ap (λ (m : ℕ). h / m) (sym (pow-suc n 1 ∙ ap (λ (m : ℕ). m * n) (pow_one n))))
