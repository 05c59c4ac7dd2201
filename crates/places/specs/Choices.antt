-- The buckets that a key chooses, in order.
use Rattle.std.specs.Prelude.{ℕ, List, [], ◌∷◌, slice_index}
use Rattle.places.specs.declared.choices.Choices.{Choices}
use Rattle.places.specs.declared.choices.Choices.TheVariants.{One, Two, Three}

-- one, two or three of them; the type of an array does not say in a definition how long it is
abbrev pub listed : Choices → List ℕ
listed (One all) = slice_index all 0 ∷ []
listed (Two all) = slice_index all 0 ∷ slice_index all 1 ∷ []
listed (Three all) = slice_index all 0 ∷ slice_index all 1 ∷ slice_index all 2 ∷ []
