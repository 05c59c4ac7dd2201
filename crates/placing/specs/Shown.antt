-- What is printed of a key.
use Rattle.std.specs.Prelude.{ℕ, ◌+◌, ◌/◌, ◌%◌, ◌^◌, cond, List, [], ◌∷◌, ◌++◌, codes, decimal, nat_lt}
use Rattle.std.specs.List.{flat_map}

-- the byte of a hexadecimal digit
abbrev pub hex_digit : ℕ → ℕ
hex_digit d = cond (nat_lt d 10) (48 + d) (87 + d)

-- the eight hexadecimal digits of a word
abbrev pub hex_text : ℕ → List ℕ
hex_text h =
    hex_digit (h / 2 ^ 28 % 16) ∷ hex_digit (h / 2 ^ 24 % 16) ∷ hex_digit (h / 2 ^ 20 % 16) ∷ hex_digit (h / 2 ^ 16 % 16)
    ∷ hex_digit (h / 2 ^ 12 % 16) ∷ hex_digit (h / 2 ^ 8 % 16) ∷ hex_digit (h / 2 ^ 4 % 16) ∷ hex_digit (h % 16) ∷ []

-- a number behind a space
abbrev pub spaced : ℕ → List ℕ
spaced n = codes " " ++ decimal n

-- the text of a key, its word and its choices
abbrev pub place_text : List ℕ → ℕ → List ℕ → List ℕ
place_text key h bs = key ++ (codes " 0x" ++ (hex_text h ++ flat_map spaced bs))
