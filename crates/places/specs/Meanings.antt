-- What the rules of this crate mean: the number of buckets, and the choices of a key.
use Rattle.std.specs.Prelude.{ℕ, List}
use Rattle.seating.specs.Layouts.{Key}
use Rattle.places.specs.DigitCounts.{digits, digit_choices}
use Rattle.places.specs.Rules.{two_choices, xor_choices}
use Rattle.places.specs.Words.{fnv}
use Rattle.places.specs.declared.digits.Digits.{Digits}
use Rattle.places.specs.declared.two.Two.{Two}
use Rattle.places.specs.declared.xor.Xor.{Xor}

abbrev pub two_count : Two → ℕ
two_count r = r.buckets

abbrev pub two_places : Two → Key → List ℕ
two_places r k = two_choices r.buckets (fnv r.seed k)

abbrev pub digits_count : Digits → ℕ
digits_count r = r.buckets

abbrev pub digits_degree : Digits → ℕ
digits_degree r = digits r.count

abbrev pub digits_places : Digits → Key → List ℕ
digits_places r k = digit_choices r.count r.buckets (fnv r.seed k)

abbrev pub xor_count : Xor → ℕ
xor_count r = r.buckets

abbrev pub xor_places : Xor → Key → List ℕ
xor_places r k = xor_choices r.buckets (fnv r.seed k)
