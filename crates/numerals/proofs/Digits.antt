-- Digits, and what `decimal` writes.
use Rattle.std.proofs.Common.{◌≡◌, ℕ, zero, suc, ◌<◌, ◌≤◌, ◌^◌, true, ◌⊎◌, List, length, get_or, decimal, rules, arith, Ok, Result, ap, inl, inr}
use Rattle.std.specs.Char.{is_ascii_digit}
use Rattle.std.specs.List.{list_all}
use Rattle.std.specs.Str.{IsUtf8}
use Rattle.std.specs.Str.Parse.{digits_value, ParsesUnsigned}
use Rattle.std.proofs.lemmas.Fmt.{decimal_nonempty, decimal_digit, first_decimal, length-decimal-le, digits_decimal, digits_value-decimal, decimal-digits_value, IsAscii-from_digits}
use Rattle.std.proofs.lemmas.Str.{IsUtf8-from_ascii}
use Rattle.std.proofs.lemmas.Str.Parse.{IsNumeralModel, numerals_by_value, parse_gives, digits_value_short}
use Rattle.std.proofs.lemmas.Bool.Decides.{nat_tests}
use Rattle.numerals.specs.Laws.{NumbersReadBack, NumbersExact}
use Rattle.numerals.specs.Numbers.{numeral}

-- digits and their value in the library's words
own : IsNumeralModel (λ ds. list_all is_ascii_digit ds ≡ true) (digits_value 10)
own = numerals_by_value _ (search rules)

pub digits_utf8 : (s : List ℕ) → list_all is_ascii_digit s ≡ true → IsUtf8 s
digits_utf8 s d = IsUtf8-from_ascii s (IsAscii-from_digits s (own.to s d))

-- up to 18 digits are parsed
pub digits_parse : {E : Type 0} (s : List ℕ) (r : Result ℕ E) → list_all is_ascii_digit s ≡ true → 0 < length s → length s ≤ 18 → ParsesUnsigned 64 10 s r → r ≡ Ok (digits_value 10 s)
digits_parse s r d some few p = parse_gives own 64 s r p d some (omega (arith, digits_value_short own s 18 d few))

pub decimal_digits : (n : ℕ) → n < 2 ^ 64 → list_all is_ascii_digit (decimal n) ≡ true
decimal_digits n h = digits_decimal own n h

-- the first byte is `0` only in `0` itself
first : (n : ℕ) → n < 2 ^ 64 → (length (decimal n) ≡ 1) ⊎ (48 < get_or (decimal n) 0 0)
first zero h = inl (ap length (decimal_digit 0 (omega arith)))
first (suc n) h = inr (first_decimal (suc n) (omega arith) h)

pub numbers_read_back_lem : NumbersReadBack
numbers_read_back_lem n h =
    let w : n < 2 ^ 64 = omega arith in
    let some : 0 < length (decimal n) = decimal_nonempty n w in
    let few : length (decimal n) ≤ 18 = length-decimal-le 18 n (omega arith) (omega arith) w in
    let d : list_all is_ascii_digit (decimal n) ≡ true = decimal_digits n w in
    let f = first n w in
    let e : numeral (decimal n) ≡ true = grind (arith, nat_tests) in
    rw (e, digits_value-decimal own n w)

pub numbers_exact_lem : NumbersExact
numbers_exact_lem s n e =
    let v : digits_value 10 s ≡ n = grind (arith, nat_tests) in
    let d : list_all is_ascii_digit s ≡ true = grind (arith, nat_tests) in
    let w : digits_value 10 s < 10 ^ 18 = digits_value_short own s 18 d (grind (arith, nat_tests)) in
    (omega arith, rw (← v) (decimal-digits_value own s d (grind (arith, nat_tests)) (λ z. grind (arith, nat_tests)) (omega arith)))
