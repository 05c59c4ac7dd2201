-- A number that is written is read.
use Rattle.numerals.proofs.Digits.{numbers_read_back_lem}
use Rattle.numerals.proofs.laws.numbers_read_back.Goals as goal

pub returns : goal.returns
returns c = numbers_read_back_lem
