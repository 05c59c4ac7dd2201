-- Powers of two up to 512.
use Rattle.std.specs.Prelude.{◌≡◌, ℕ, zero, suc, ◌+◌, ◌/◌, ◌%◌, ◌^◌, ◌<◌, ◌≤◌, true, bit_xor, count_ones}
use Rattle.std.specs.Int.{IsPowerOfTwo, is_power_of_two}
use Rattle.std.proofs.Common.{ap, ◌∙◌, mod-lt, pow-suc, arith, eq-eqb}
use Rattle.std.proofs.Math.Decide.{dec_le}
use Rattle.std.proofs.lemmas.Bool.{eqb-true}
use Rattle.std.proofs.lemmas.Nat.{pow_pos, xor_lt, ones_le_self, zero_from_ones}
use lib.Count.{ones, ones_step}
use native.Mathlib.Nat.{pow-zero}
use Rattle.places.specs.Rules.{XorSize}
use Rattle.std.proofs.Math.Nat.{pow-le-pow_right}

twice : (n : ℕ) → n % 2 ≡ 0 → IsPowerOfTwo (n / 2) → IsPowerOfTwo n
twice n e p = (suc p.0, omega (arith, p.1, pow-suc 2 p.0))

-- a number with one bit set is a power of two: the bit is the lowest, or one of its half
one_bit : (d n : ℕ) → n ≤ d → count_ones n ≡ 1 → IsPowerOfTwo n
one_bit zero n h e = absurd (omega (arith, ones_le_self n))
one_bit (suc d) n h e =
    let s : count_ones n ≡ n % 2 + count_ones (n / 2) = ones_step n in
    elim (dec_le (n % 2) 0) [
      | yes l ↦ twice n (omega arith) (one_bit d (n / 2) (omega arith) (omega arith))
      | no l ↦ (0, omega (arith, zero_from_ones (n / 2) (omega (arith, mod-lt n {m = 2} (omega arith)))))
    ]

bit_of_power : (k : ℕ) → count_ones (2 ^ k) ≡ 1
unfolding ones
bit_of_power zero = ap count_ones (pow-zero 2)
bit_of_power (suc k) =
    let even : 2 ^ suc k % 2 ≡ 0 = omega (arith, pow-suc 2 k) in
    let half : 2 ^ suc k / 2 ≡ 2 ^ k = omega (arith, pow-suc 2 k) in
    omega (arith, ones_step (2 ^ suc k), ap count_ones half, bit_of_power k)

-- the library's test tells the sizes of `xor`
pub tested_size : (n : ℕ) → is_power_of_two n ≡ true → n ≤ 512 → XorSize n
tested_size n h l = let p = one_bit n n (omega arith) (eqb-true (count_ones n) 1 h) in (p.0, p.1, l)

pub power_of_xor : (n : ℕ) → XorSize n → is_power_of_two n ≡ true
power_of_xor n s = eq-eqb (count_ones n) 1 (ap count_ones s.1 ∙ bit_of_power s.0)

pub power_few : (k n : ℕ) → k ≤ 9 → n ≡ 2 ^ k → n ≤ 512
power_few k n h e = omega (arith, pow-le-pow_right {n = 2} (omega arith) {i = k} {j = 9} h)

pub power_some : (k n : ℕ) → n ≡ 2 ^ k → 1 ≤ n
power_some k n e = omega (arith, pow_pos k)

pub exponent_low : (k n : ℕ) → n ≡ 2 ^ k → n ≤ 512 → k ≤ 9
exponent_low k n e h = elim (dec_le k 9) [ yes l ↦ l | no l ↦ absurd (far (omega arith)) ]
  where
    far : 10 ≤ k → ⊥
    far l = omega (arith, pow-le-pow_right {n = 2} (omega arith) {i = 10} {j = k} l)

pub xor_size : (k n : ℕ) → k ≤ 9 → n ≡ 2 ^ k → XorSize n
xor_size k n h e = (k, e, power_few k n h e)

-- what is exclusive-ored below a power of two stays below it
pub xor_inside : (k n a b : ℕ) → n ≡ 2 ^ k → bit_xor (a % n) (b % n) < n
xor_inside k n a b e =
    let p : 1 ≤ n = power_some k n e in
    let l : a % n < 2 ^ k = omega (arith, mod-lt a {m = n} p) in
    let r : b % n < 2 ^ k = omega (arith, mod-lt b {m = n} p) in
    omega (arith, xor_lt k (a % n) (b % n) l r)
