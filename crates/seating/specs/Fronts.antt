-- A table's own slots are the first of its bank: what a call does to the bank it does to them, and to no other.
use Rattle.std.specs.Prelude.{◌≡◌, ℕ, List, take, drop as past}
use Rattle.seating.specs.Laws.{Sized}
use Rattle.seating.specs.Layouts.{Key, Value, Content, Layout, slots}
use Rattle.seating.specs.Lookups.{lookup}
use Rattle.seating.specs.Steps.{Lent, PutAnswer, PutDoes, DropAnswer, DropDoes}

-- the table's own slots
abbrev pub front : Layout → List Content → List Content
front L xs = take (slots L) xs

-- the slots of the bank behind them
abbrev pub rest : Layout → List Content → List Content
rest L xs = past (slots L) xs

abbrev pub PutFront : Type 0
PutFront =
    (L : Layout) (xs : List Content) (k : Key) (v : Value) (was : Lent) (a : PutAnswer) (ys : List Content) (is : Lent)
    → PutDoes L xs k v was a ys is → PutDoes L (front L xs) k v was a (front L ys) is × (rest L ys ≡ rest L xs)

abbrev pub DropFront : Type 0
DropFront =
    (L : Layout) (xs : List Content) (k : Key) (was : List ℕ) (a : DropAnswer) (ys : List Content) (is : List ℕ)
    → DropDoes L xs k was a ys is → DropDoes L (front L xs) k was a (front L ys) is × (rest L ys ≡ rest L xs)

abbrev pub GetFront : Type 0
GetFront = (L : Layout) (xs : List Content) (k : Key) → Sized L → lookup L xs k ≡ lookup L (front L xs) k
