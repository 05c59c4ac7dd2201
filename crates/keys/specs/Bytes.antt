-- Bytes of keys.
use Rattle.std.specs.Prelude.{ℕ, ◌/◌, ◌%◌, ◌^◌, ◌<◌, ◌≤◌, List, ◌∷◌, length}
use Rattle.std.specs.List.{AllByRecursion}
use Rattle.seating.specs.Layouts.{Key}

-- a key has 1 to 15 bytes
pub record KeySized (k : Key) : Type 0 where
  pub some : 1 ≤ length k
  pub few : length k ≤ 15
  pub octets : AllByRecursion (λ b. b < 256) k

-- a number of 16 bits, most significant byte first
abbrev pub two : ℕ → List ℕ → List ℕ
two n rest = (n / 2 ^ 8 % 256) ∷ (n % 256) ∷ rest

-- a number of 32 bits, most significant byte first
abbrev pub four : ℕ → List ℕ → List ℕ
four n rest = (n / 2 ^ 24 % 256) ∷ (n / 2 ^ 16 % 256) ∷ two n rest
