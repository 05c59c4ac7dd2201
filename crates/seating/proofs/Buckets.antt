-- A slot's bucket by division is the bucket in whose range the slot lies.
use Rattle.std.proofs.Common.{◌≡◌, ℕ, ◌+◌, ◌/◌, ◌<◌, sym, subst, mul-le-mul_right, mod-lt, add-mul, one-mul, div-add-mod', arith}
use mathlib.Core.List.{Memᴰ}
use native.Mathlib.Nat.{div-eq_of_lt-le}
use Rattle.seating.specs.Layouts.{Layout, bucket_slots, InBucket}
use Rattle.seating.specs.Laws.{Sized, CandidatesAreBuckets}

in_own_bucket : (L : Layout) → Sized L → (i : ℕ) → InBucket L (i / L.width) i
in_own_bucket L s i = omega (arith, div-add-mod' i L.width, mod-lt i {m = L.width} s.wide)

bucket_of : (L : Layout) (b i : ℕ) → InBucket L b i → i / L.width ≡ b
bucket_of L b i h =
    div-eq_of_lt-le L.width h.0 (omega (arith, add-mul b 1 L.width, one-mul L.width))

below : (L : Layout) (b i : ℕ) → b < L.buckets → InBucket L b i → i < bucket_slots L
below L b i l h =
    omega (arith, mul-le-mul_right {m = b + 1} {n = L.buckets} L.width (omega arith), add-mul b 1 L.width, one-mul L.width)

pub candidates : CandidatesAreBuckets
candidates L s k i = (
  (λ c. (i / L.width, c.1, in_own_bucket L s i)),
  (λ c.
      let b : ℕ = c.0 in
      (below L b i (s.inside k b c.1) c.2, subst (λ (x : ℕ). Memᴰ x (L.choices k)) (sym (bucket_of L b i c.2)) c.1)),
)
