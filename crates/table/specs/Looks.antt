-- What looking a key up answers.
use Rattle.std.specs.Prelude.{◌≡◌, ℕ, List, MatchOption}
use mathlib.Core.List.{Memᴰ}
use Rattle.std.specs.Option.{option_map}
use Rattle.seating.specs.Layouts.{Key, Content}
use Rattle.seating.specs.Layouts.Content.{holding}
use Rattle.seating.specs.Lookups.{look_in}
use Rattle.seating.specs.Slots.{at, Sits}
use Rattle.table.specs.declared.Looked.{Looked}
use Rattle.table.specs.declared.looks.Hit.{Hit}

-- the value and the number of looks at the slots in order, and the slot that has the key
pub record Looks (xs : List Content) (k : Key) (is : List ℕ) (r : Looked Hit) : Type 0 where
  pub value : (look_in xs k is).0 ≡ option_map (λ h. h.value) r.found
  pub count : (look_in xs k is).1 ≡ r.looks
  pub slot : MatchOption r.found ((i : ℕ) → Memᴰ i is → Sits xs k i → ⊥) (λ h. Memᴰ h.slot is × (at xs h.slot ≡ holding k h.value))
