-- How a key is looked up: in which slots, in which order, and how many looks it takes.
use Rattle.std.specs.Prelude.{ℕ, suc, ◌*◌, List, [], ◌∷◌, ◌++◌, Some, None, Option}
use Rattle.std.specs.List.{range_with_len, flat_map}
use Rattle.seating.specs.Layouts.{Key, Value, Content, Layout, bucket_slots}
use Rattle.seating.specs.Slots.{at, value_at}

-- the slots of bucket b, ascending
abbrev pub bucket_list : Layout → ℕ → List ℕ
bucket_list L b = range_with_len (b * L.width) L.width

-- choice by choice, a repeated choice again, then the stash, each ascending
abbrev pub look_order : Layout → Key → List ℕ
look_order L k = flat_map (bucket_list L) (L.choices k) ++ range_with_len (bucket_slots L) L.stash

-- a slot that has a value ends the looking
abbrev pub looked : Option Value → Option Value × ℕ → Option Value × ℕ
looked (Some v) rest = (Some v, 1)
looked None rest = (rest.0, suc rest.1)

-- the value that slots have for k, and how many of them were looked at
abbrev pub look_in : List Content → Key → List ℕ → Option Value × ℕ
look_in xs k [] = (None, 0)
look_in xs k (i ∷ is) = looked (value_at k (at xs i)) (look_in xs k is)

-- the value of k, if it is found, and the number of slots looked at
abbrev pub lookup : Layout → List Content → Key → Option Value × ℕ
lookup L xs k = look_in xs k (look_order L k)
