-- Numbers that stand in a text one after another, each up to a mark.
use Rattle.std.specs.Prelude.{ℕ, ◌+◌, List, take, drop, Some, None, Option, ◌==◌, nat_lt, if◌then◌else◌, position}
use Rattle.std.specs.Option.{option_and_then}
use Rattle.numerals.specs.Numbers.{number}

-- go on with what was read, if anything was
abbrev pub and_then : {A B : Type 0} → Option A → (A → Option B) → Option B
and_then o f = option_and_then f o

-- what stands before the first mark, and what stands behind it
abbrev pub split : ℕ → List ℕ → Option (List ℕ × List ℕ)
split mark s = and_then (position (λ b. b == mark) s) (λ i. Some (take i s, drop (i + 1) s))

-- the number that s writes, if it is below the limit
abbrev pub below : ℕ → List ℕ → Option ℕ
below limit s = and_then (number s) (λ n. if nat_lt n limit then Some n else None)

-- the number below the limit that stands before the first mark, and what stands behind the mark
abbrev pub part : ℕ → ℕ → List ℕ → Option (ℕ × List ℕ)
part limit mark s = and_then (split mark s) (λ p. and_then (below limit p.0) (λ n. Some (n, p.1)))
