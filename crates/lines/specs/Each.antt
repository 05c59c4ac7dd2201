-- What going through the lines of an input gives.
use Rattle.std.specs.Prelude.{ℕ, ◌<◌, List, None, Some, Option, Result, IfOk, MatchOption}
use Rattle.lines.specs.Said.{SaysLine, ReadsLine}
use Rattle.lines.specs.declared.line.Line.{Line}
use Rattle.lines.specs.declared.each.Lines.{Lines}

-- how many lines may still come
abbrev pub lines_left : {R : Type 0} → Lines R → ℕ
lines_left s = s.left

-- the bytes that are known to be left
abbrev pub known_left : {R : Type 0} → (R → Option (List ℕ)) → Lines R → Option (List ℕ)
known_left remaining s = remaining s.from

-- a line is read as by itself, and nothing comes only at the end, or when no more may come
abbrev pub GivesLine : {E : Type 0} → ℕ → Option (List ℕ) → Option (Result Line E) → Option (List ℕ) → Type 0
GivesLine left old r new =
    MatchOption r (0 < left → ReadsLine old None new) (λ item. IfOk item (λ l. SaysLine l × ReadsLine old (Some l) new))
