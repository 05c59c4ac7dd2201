-- Zeros behind a text.
use Rattle.std.specs.Prelude.{ℕ, Bool, List, ◌==◌}
use Rattle.std.specs.List.{list_all}

-- all of a list is zero
abbrev pub blank : List ℕ → Bool
blank bs = list_all (λ b. b == 0) bs
