-- Counts added up.
use Rattle.std.proofs.Common.{ℕ, ◌^◌, ◌*◌, ◌≤◌, List, length, get_or, sum, Fits, w64, arith}
use Rattle.std.proofs.lemmas.List.Elements.{All-from_get_or}
use Rattle.std.proofs.lemmas.List.Sums.{sum_by-le}

-- counts below 2 ^ 64, added up
pub sum_small : (counts : List ℕ) → ((i : ℕ) → Fits w64 (get_or counts i 0)) → sum counts ≤ length counts * 2 ^ 64
sum_small counts small = sum_by-le (λ x. x) (2 ^ 64) counts (All-from_get_or (λ x. x ≤ 2 ^ 64) counts 0 (λ i _. omega (arith, small i)))
