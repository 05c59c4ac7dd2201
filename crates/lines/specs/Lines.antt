-- Lines of at most 128 bytes before their line feed.
use Rattle.std.specs.Prelude.{ℕ, List, length, Some, None, Option, ◌==◌, nat_le, if◌then◌else◌}
use Rattle.std.specs.List.{before_first}

-- a line of these bytes, if it is not too long
abbrev pub line_text : List ℕ → Option (List ℕ)
line_text bs = if nat_le (length bs) 128 then Some bs else None

-- what stands before the first line feed, and all where there is none
abbrev pub until_feed : List ℕ → List ℕ
until_feed bs = before_first (λ b. b == 10) bs
