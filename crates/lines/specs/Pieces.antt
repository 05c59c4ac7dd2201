-- What taking a piece of input does to the line that is read, and to the bytes that are known to be left.
use Rattle.std.specs.Prelude.{◌≡◌, ◌≢◌, ℕ, ◌<◌, List, [], ◌∷◌, ◌++◌, length, Option, All}
use Rattle.std.specs.Io.KnownBytes.{Keeps, Consumes, IsAtEnd}
use Rattle.lines.specs.Lines.{line_text}
use Rattle.lines.specs.Said.{said}
use Rattle.lines.specs.declared.line.Line.{Line}
use Rattle.lines.specs.declared.Piece.{Piece}
use Rattle.lines.specs.declared.Piece.TheVariants.{End, Last, More}

-- the line has these bytes more, none of which is a line feed
pub record Grows (before after : Line) (bs : List ℕ) : Type 0 where
  pub clear : All (λ b. b ≢ 10) bs
  pub said : (done : List ℕ) → said before ≡ line_text done → said after ≡ line_text (done ++ bs)

abbrev pub Takes : Piece → Option (List ℕ) → Option (List ℕ) → Line → Line → Type 0
Takes End old new before after = IsAtEnd old × Keeps old new × (after ≡ before)
Takes Last old new before after = (bs : List ℕ) × Grows before after bs × Consumes old new (bs ++ 10 ∷ [])
Takes More old new before after = (bs : List ℕ) × Grows before after bs × Consumes old new bs × (0 < length bs)
