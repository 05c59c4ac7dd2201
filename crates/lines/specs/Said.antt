-- What a line says.
use Rattle.std.specs.Prelude.{◌≡◌, ℕ, ◌<◌, List, length, Option, IfSome, MatchOption}
use Rattle.std.specs.Option.{option_map}
use Rattle.std.specs.Io.BufRead.{DropsThrough}
use Rattle.std.specs.Io.KnownBytes.{IsAtEnd}
use Rattle.lines.specs.Lines.{line_text, until_feed}
use Rattle.lines.specs.declared.line.Line.{Line}

-- its bytes, or nothing once it is too long
abbrev pub said : Line → Option (List ℕ)
said l = option_map (λ v. v.items) l.text

-- it says what some bytes with no line feed among them say
abbrev pub SaysLine : Line → Type 0
SaysLine l = (bs : List ℕ) × (until_feed bs ≡ bs) × (said l ≡ line_text bs)

-- a line says the first of the bytes that are known; they lose it with its line feed, and with no line they are at their end
abbrev pub ReadsLine : Option (List ℕ) → Option Line → Option (List ℕ) → Type 0
ReadsLine old o new =
    MatchOption o (IsAtEnd old) (λ l. IfSome old (λ xs. (0 < length xs) × (said l ≡ line_text (until_feed xs))))
    × DropsThrough old new 10
