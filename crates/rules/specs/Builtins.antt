-- Our own rules by name.
use Rattle.std.specs.Prelude.{ℕ, List}
use Rattle.seating.specs.Layouts.{Key}
use Rattle.places.specs.Meanings.{two_count, two_places, digits_count, digits_degree, digits_places, xor_count, xor_places}
use Rattle.places.specs.Rules.{TwoSize, DigitSize, XorSize, two_choices, dig2_choices, dig3_choices, xor_choices}
use Rattle.rules.specs.declared.builtin.Builtin.{Builtin}
use Rattle.rules.specs.declared.builtin.Builtin.TheVariants.{Two as by_two, Digits as by_digits, Xor as by_xor}
use Rattle.rules.specs.declared.builtin.RuleName.{RuleName}
use Rattle.rules.specs.declared.builtin.RuleName.TheVariants.{Two, Dig2, Dig3, Xor}

-- the condition of each rule on the number of buckets
abbrev pub NameSize : RuleName → ℕ → Type 0
NameSize Two n = TwoSize n
NameSize Dig2 n = DigitSize n
NameSize Dig3 n = DigitSize n
NameSize Xor n = XorSize n

-- the choices by each rule, from the number of buckets and a word
abbrev pub name_choices : RuleName → ℕ → ℕ → List ℕ
name_choices Two n h = two_choices n h
name_choices Dig2 n h = dig2_choices n h
name_choices Dig3 n h = dig3_choices n h
name_choices Xor n h = xor_choices n h

abbrev pub builtin_count : Builtin → ℕ
builtin_count (by_two r) = two_count r
builtin_count (by_digits r) = digits_count r
builtin_count (by_xor r) = xor_count r

abbrev pub builtin_degree : Builtin → ℕ
builtin_degree (by_two r) = 2
builtin_degree (by_digits r) = digits_degree r
builtin_degree (by_xor r) = 2

abbrev pub builtin_places : Builtin → Key → List ℕ
builtin_places (by_two r) k = two_places r k
builtin_places (by_digits r) k = digits_places r k
builtin_places (by_xor r) k = xor_places r k
