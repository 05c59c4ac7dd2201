-- Place rules: what every rule shows, and the choices of our own, from a word h and the number n of buckets.
use Rattle.std.specs.Prelude.{◌≡◌, ℕ, ◌+◌, ◌/◌, ◌%◌, ◌^◌, ◌<◌, ◌≤◌, List, [], ◌∷◌, length, bit_xor}
use Rattle.std.specs.List.{AllByRecursion}
use Rattle.places.specs.Words.{fnv}

-- n buckets, and d choices for each key
pub record RuleSized (n d : ℕ) : Type 0 where
  pub some : 1 ≤ n
  pub few : n ≤ 512
  pub one : 1 ≤ d
  pub three : d ≤ 3

-- d choices, each a bucket
pub record Placed (n d : ℕ) (bs : List ℕ) : Type 0 where
  pub count : length bs ≡ d
  pub inside : AllByRecursion (λ b. b < n) bs

-- `two`: a bucket of the lower half, and one of the upper half
abbrev pub two_choices : ℕ → ℕ → List ℕ
two_choices n h = (h % (n / 2)) ∷ (n / 2 + h / (n / 2) % (n / 2)) ∷ []

-- digit j of the word to base n, counted from the lowest
abbrev pub digit : ℕ → ℕ → ℕ → ℕ
digit n h j = h / n ^ j % n

abbrev pub dig2_choices : ℕ → ℕ → List ℕ
dig2_choices n h = digit n h 0 ∷ digit n h 1 ∷ []

abbrev pub dig3_choices : ℕ → ℕ → List ℕ
dig3_choices n h = digit n h 0 ∷ digit n h 1 ∷ digit n h 2 ∷ []

-- `xor`: the second choice is the first, exclusive or the word of the word's highest byte
abbrev pub xor_choices : ℕ → ℕ → List ℕ
xor_choices n h = (h % n) ∷ bit_xor (h % n) (fnv 0 ((h / 2 ^ 24) ∷ []) % n) ∷ []

-- n is even, from 2 to 512
pub record TwoSize (n : ℕ) : Type 0 where
  pub some : 2 ≤ n
  pub few : n ≤ 512
  pub even : n % 2 ≡ 0

-- n is from 1 to 512
pub record DigitSize (n : ℕ) : Type 0 where
  pub some : 1 ≤ n
  pub few : n ≤ 512

-- n is a power of two, from 1 to 512
abbrev pub XorSize : ℕ → Type 0
XorSize n = (k : ℕ) × (n ≡ 2 ^ k) × (n ≤ 512)
