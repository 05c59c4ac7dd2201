-- Which bytes write a number, and which number they write.
use Rattle.std.specs.Prelude.{ℕ, Bool, not, ◌&&◌, ◌||◌, List, length, Some, None, Option, ◌==◌, nat_le, slice_index, if◌then◌else◌}
use Rattle.std.specs.Char.{is_ascii_digit}
use Rattle.std.specs.List.{list_all}
use Rattle.std.specs.Str.Parse.{digits_value}

-- 1 to 18 digits, and no leading zero but in `0` itself
abbrev pub numeral : List ℕ → Bool
numeral s =
    (nat_le 1 (length s) && nat_le (length s) 18)
    && ((length s == 1 || not (slice_index s 0 == 48)) && list_all is_ascii_digit s)

-- the number that s writes
abbrev pub number : List ℕ → Option ℕ
number s = if numeral s then Some (digits_value 10 s) else None
