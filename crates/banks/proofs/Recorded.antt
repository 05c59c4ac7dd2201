-- Slot records and what they mean.
use Rattle.std.proofs.Common.{◌≡◌, ℕ, List, map, set, ap, ◌∙◌}
use Rattle.std.proofs.lemmas.List.{map-set}
use Rattle.seating.specs.Layouts.{Content}

-- a record put at a place sets the slot to what the record means
pub set_map : {X : Type 0} (f : X → Content) (xs ys : List X) (i : ℕ) (x : X) (c : Content) → f x ≡ c → ys ≡ set xs i x → map f ys ≡ set (map f xs) i c
set_map f xs ys i x c e h = ap (map f) h ∙ map-set f xs i x ∙ ap (set (map f xs) i) e
