-- What the texts of numbers come to.
use Rattle.std.specs.Prelude.{◌≡◌, ℕ, ◌^◌, ◌<◌, List, Some, decimal}
use Rattle.numerals.specs.Numbers.{number}

-- a number that is written and read is that number
abbrev pub NumbersReadBack : Type 0
NumbersReadBack = (n : ℕ) → n < 10 ^ 18 → number (decimal n) ≡ Some n

-- what is read as a number is the text of that number, and there is no other
abbrev pub NumbersExact : Type 0
NumbersExact = (s : List ℕ) (n : ℕ) → number s ≡ Some n → (n < 10 ^ 18) × (decimal n ≡ s)
