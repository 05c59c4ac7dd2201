-- What slots hold: who sits where, the finite map read off them, how many keys moved, and how many are in the stash.
use Rattle.std.specs.Prelude.{◌≡◌, ℕ, suc, cond, not, ◌&&◌, List, [], ◌∷◌, length, take, drop, is_some, Some, None, count_by, Option, ◌==◌, slice_index_or}
use Rattle.std.specs.Str.{bytes_eq}
use Rattle.seating.specs.Layouts.{Key, Value, Content, Layout, bucket_slots}
use Rattle.seating.specs.Layouts.Content.{vacant, holding}

-- what stands in slot i, and nothing past the last slot
abbrev pub at : List Content → ℕ → Content
at xs i = slice_index_or xs i vacant

-- k sits in slot i
abbrev pub Sits : List Content → Key → ℕ → Type 0
Sits xs k i = (v : Value) × (at xs i ≡ holding k v)

-- k sits in some slot
abbrev pub Held : List Content → Key → Type 0
Held xs k = (i : ℕ) × Sits xs k i

-- k sits in some slot, with the value v
abbrev pub Stored : List Content → Key → Value → Type 0
Stored xs k v = (i : ℕ) × (at xs i ≡ holding k v)

-- some key sits in slot i
abbrev pub Occupied : List Content → ℕ → Type 0
Occupied xs i = (k : Key) × Sits xs k i

-- the held keys, in the order of their slots
abbrev pub keys : List Content → List Key
keys [] = []
keys (vacant ∷ xs) = keys xs
keys (holding k v ∷ xs) = k ∷ keys xs

-- the value that a slot has for k
abbrev pub value_at : Key → Content → Option Value
value_at k vacant = None
value_at k (holding h v) = cond (bytes_eq h k) (Some v) None

abbrev pub or_else : {A : Type 0} → Option A → Option A → Option A
or_else (Some x) y = Some x
or_else None y = y

-- the finite map read off the slots
abbrev pub value_of : List Content → Key → Option Value
value_of [] k = None
value_of (c ∷ xs) k = or_else (value_at k c) (value_of xs k)

-- the slot of a held key
abbrev pub slot_of : List Content → Key → ℕ
slot_of [] k = 0
slot_of (c ∷ xs) k = cond (is_some (value_at k c)) 0 (suc (slot_of xs k))

-- how many of the keys held before and after have another slot after
abbrev pub moved : List Content → List Content → ℕ
moved xs ys = count_by (λ k. is_some (value_of ys k) && not (slot_of xs k == slot_of ys k)) (keys xs)

-- how many keys sit in the stash
abbrev pub stashed : Layout → List Content → ℕ
stashed L xs = length (keys (take L.stash (drop (bucket_slots L) xs)))
