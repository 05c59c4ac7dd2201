-- What the slots of a table always satisfy.
use Rattle.std.specs.Prelude.{◌≡◌, ℕ, List, length}
use Rattle.seating.specs.Layouts.{Key, Content, Layout, slots, Stash, Allowed}
use Rattle.seating.specs.Paths.{Pathless}
use Rattle.seating.specs.Slots.{Sits}

-- the slots are those of the layout, and each key sits in one slot, where it may
pub record Lawful (L : Layout) (xs : List Content) : Type 0 where
  pub whole : length xs ≡ slots L
  pub once : (k : Key) (i j : ℕ) → Sits xs k i → Sits xs k j → i ≡ j
  pub placed : (k : Key) (i : ℕ) → Sits xs k i → Allowed L k i

-- no key of the stash has a cuckoo path
abbrev pub Settled : Layout → List Content → Type 0
Settled L xs = (h : Key) (t : ℕ) → Stash L t → Sits xs h t → Pathless L xs h

-- the invariant of a table
pub record Sound (L : Layout) (xs : List Content) : Type 0 where
  pub law : Lawful L xs
  pub rest : Settled L xs
