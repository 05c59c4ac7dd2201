-- A text that is read is the text of the number.
use Rattle.numerals.proofs.Digits.{numbers_exact_lem}
use Rattle.numerals.proofs.laws.numbers_exact.Goals as goal

pub returns : goal.returns
returns c = numbers_exact_lem
