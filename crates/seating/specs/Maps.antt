-- A table as a finite map: put, get and drop answer as the map read off the slots does.
use Rattle.std.specs.Prelude.{◌≡◌, ℕ, ◌+◌, ◌*◌, ◌≤◌, List, length, Some, None, Option}
use Rattle.std.specs.Map.{update}
use Rattle.std.specs.Str.{bytes_eq}
use Rattle.seating.specs.Layouts.{Key, Value, Content, Layout}
use Rattle.seating.specs.Lookups.{lookup}
use Rattle.seating.specs.Slots.{value_of}
use Rattle.seating.specs.Steps.{Lent, PutAnswer, PutDoes, DropAnswer, DropDoes}
use Rattle.seating.specs.Steps.PutAnswer.{seated, renewed, too_short, full}
use Rattle.seating.specs.Steps.DropAnswer.{dropped, too_short as lent_short, not_held}
use Rattle.seating.specs.Tables.{Lawful, Sound}

-- the map has a value for k
abbrev pub Known : (Key → Option Value) → Key → Type 0
Known m k = (v : Value) × (m k ≡ Some v)

-- two maps agree
abbrev pub Same : (Key → Option Value) → (Key → Option Value) → Type 0
Same m n = (j : Key) → n j ≡ m j

-- a put of k with v takes the map m to n: done, it gives k the value v and leaves the rest; refused, it leaves all
abbrev pub PutMaps : (Key → Option Value) → Key → Value → PutAnswer → (Key → Option Value) → Type 0
PutMaps m k v (seated _ _) n = (m k ≡ None) × Same (update bytes_eq m k (Some v)) n
PutMaps m k v renewed n = Known m k × Same (update bytes_eq m k (Some v)) n
PutMaps m k v too_short n = Same m n
PutMaps m k v (full c) n = (m k ≡ None) × Same m n

-- a drop of k: done, it takes k out and leaves the rest
abbrev pub DropMaps : (Key → Option Value) → Key → DropAnswer → (Key → Option Value) → Type 0
DropMaps m k (dropped _ _) n = Known m k × Same (update bytes_eq m k None) n
DropMaps m k lent_short n = Same m n
DropMaps m k not_held n = (m k ≡ None) × Same m n

abbrev pub PutMapLaw : Type 0
PutMapLaw =
    (L : Layout) (xs : List Content) (k : Key) (v : Value) (was : Lent) (a : PutAnswer) (ys : List Content) (is : Lent)
    → PutDoes L xs k v was a ys is → Sound L xs → PutMaps (value_of xs) k v a (value_of ys)

abbrev pub DropMapLaw : Type 0
DropMapLaw =
    (L : Layout) (xs : List Content) (k : Key) (was : List ℕ) (a : DropAnswer) (ys : List Content) (is : List ℕ)
    → DropDoes L xs k was a ys is → Sound L xs → DropMaps (value_of xs) k a (value_of ys)

-- a lookup finds the value of the map, and looks at each slot of the chosen buckets and of the stash at most
abbrev pub GetMapLaw : Type 0
GetMapLaw =
    (L : Layout) (xs : List Content) (k : Key) → Lawful L xs
    → ((lookup L xs k).0 ≡ value_of xs k) × ((lookup L xs k).1 ≤ length (L.choices k) * L.width + L.stash)
