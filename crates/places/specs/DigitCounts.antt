-- The digit rules by how many digits they take.
use Rattle.std.specs.Prelude.{ℕ, List}
use Rattle.places.specs.Rules.{dig2_choices, dig3_choices}
use Rattle.places.specs.declared.digits.DigitCount.{DigitCount}
use Rattle.places.specs.declared.digits.DigitCount.TheVariants.{Two, Three}

abbrev pub digits : DigitCount → ℕ
digits Two = 2
digits Three = 3

abbrev pub digit_choices : DigitCount → ℕ → ℕ → List ℕ
digit_choices Two n h = dig2_choices n h
digit_choices Three n h = dig3_choices n h
