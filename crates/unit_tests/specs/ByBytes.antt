-- A rule of a customer's own.
use Rattle.std.specs.Prelude.{ℕ, ◌%◌, List, [], ◌∷◌, slice_index}
use Rattle.seating.specs.Layouts.{Key}

-- the first two bytes of the key choose, each modulo the number of buckets
abbrev pub byte_choices : ℕ → Key → List ℕ
byte_choices n k = (slice_index k 0 % n) ∷ (slice_index k 1 % n) ∷ []
