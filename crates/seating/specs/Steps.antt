-- What making, put and drop do: by the answer, the slots and the lent memory before and after.
use Rattle.std.specs.Prelude.{◌≡◌, ℕ, ◌+◌, ◌*◌, ◌<◌, ◌≤◌, ◌⊎◌, List, ◌++◌, length, drop as past, replicate, slice_set}
use Rattle.seating.specs.Blocking.{blocking}
use Rattle.seating.specs.Layouts.{Key, Value, Content, Layout, slots, Stash, Allowed}
use Rattle.seating.specs.Layouts.Content.{vacant, holding}
use Rattle.seating.specs.Paths.{Pathless, Shortest, Nearest, carry}
use Rattle.seating.specs.Slots.{at, Sits, Occupied, stashed}
use Rattle.seating.specs.Tables.{Settled}

-- the words lent to a put: a work area and a list
pub record Lent : Type 0 where
  pub work : List ℕ
  pub list : List ℕ

-- as many words, all of them zero
abbrev pub blank : List ℕ → List ℕ
blank ws = replicate (length ws) 0

-- k sits in slot i, which it may take
abbrev pub Found : Layout → List Content → Key → ℕ → Type 0
Found L xs k i = Allowed L k i × Sits xs k i

-- k sits in no slot that it may take
abbrev pub Missing : Layout → List Content → Key → Type 0
Missing L xs k = (i : ℕ) → Found L xs k i → ⊥

-- sizes of a table: 1 to 4 slots in a bucket, at most 8 in the stash
pub record Sizes (L : Layout) : Type 0 where
  pub some : 1 ≤ L.width
  pub narrow : L.width ≤ 4
  pub few : L.stash ≤ 8

pub data MakeAnswer : Type 0 where
  made : MakeAnswer
  bad_size : MakeAnswer
  bank_short : MakeAnswer

-- making, over the slots of a whole bank
abbrev pub MakeDoes : Layout → List Content → MakeAnswer → List Content → Type 0
MakeDoes L xs made ys = Sizes L × (slots L ≤ length xs) × (ys ≡ replicate (slots L) vacant ++ past (slots L) xs)
MakeDoes L xs bad_size ys = (Sizes L → ⊥) × (ys ≡ xs)
MakeDoes L xs bank_short ys = Sizes L × (length xs < slots L) × (ys ≡ xs)

-- the answers to a put: seated, with how many keys moved and how many are in the stash then; a new value; refused, since
-- the lent memory is too short; refused as full, with the number of slots listed
pub data PutAnswer : Type 0 where
  seated : ℕ → ℕ → PutAnswer
  renewed : PutAnswer
  too_short : PutAnswer
  full : ℕ → PutAnswer

-- both parts of the lent memory are long enough
abbrev pub Roomy : Layout → Lent → Type 0
Roomy L was = (3 * slots L ≤ length was.work) × (slots L ≤ length was.list)

-- a shortest cuckoo path was carried out, and all keys on it moved
pub record Pathed (L : Layout) (xs : List Content) (k : Key) (v : Value) (m : ℕ) (ys : List Content) : Type 0 where
  pub way : List ℕ
  pub shortest : Shortest L xs k way
  pub moves : m + 1 ≡ length way
  pub after : ys ≡ carry xs way (holding k v)

-- there is none, and a vacant slot of the stash was filled
pub record Stowed (L : Layout) (xs : List Content) (k : Key) (v : Value) (m : ℕ) (ys : List Content) : Type 0 where
  pub none : Pathless L xs k
  pub slot : ℕ
  pub stash : Stash L slot
  pub free : at xs slot ≡ vacant
  pub moves : m ≡ 0
  pub after : ys ≡ slice_set xs slot (holding k v)

-- there is neither
pub record Stuck (L : Layout) (xs : List Content) (k : Key) : Type 0 where
  pub none : Pathless L xs k
  pub filled : (t : ℕ) → Stash L t → Occupied xs t

-- a put of k with v
abbrev pub PutDoes : Layout → List Content → Key → Value → Lent → PutAnswer → List Content → Lent → Type 0
PutDoes L xs k v was (seated m s) ys is =
    Roomy L was × Missing L xs k × (Pathed L xs k v m ys ⊎ Stowed L xs k v m ys) × (s ≡ stashed L ys)
    × (is ≡ record { work = blank was.work; list = was.list })
PutDoes L xs k v was renewed ys is =
    Roomy L was × ((i : ℕ) × Found L xs k i × (ys ≡ slice_set xs i (holding k v)))
    × (is ≡ record { work = blank was.work; list = was.list })
PutDoes L xs k v was too_short ys is = (Roomy L was → ⊥) × (ys ≡ xs) × (is ≡ was)
PutDoes L xs k v was (full c) ys is =
    Roomy L was × Missing L xs k × Stuck L xs k × (ys ≡ xs) × (c ≡ length (blocking L xs k))
    × (is ≡ record { work = blank was.work; list = blocking L xs k ++ past c was.list })

-- the answers to a drop: done, with how many keys moved and how many are in the stash then; refused, since the lent memory
-- is too short; refused, since the key is not held
pub data DropAnswer : Type 0 where
  dropped : ℕ → ℕ → DropAnswer
  too_short : DropAnswer
  not_held : DropAnswer

-- no key of the stash has a cuckoo path then, and none moved
pub record Rested (L : Layout) (xs : List Content) (m : ℕ) (ys : List Content) : Type 0 where
  pub settled : Settled L xs
  pub moves : m ≡ 0
  pub after : ys ≡ xs

-- one has: a shortest one over all of them was carried out, that slot of the stash emptied, and all keys on it moved
pub record Refilled (L : Layout) (xs : List Content) (m : ℕ) (ys : List Content) : Type 0 where
  pub slot : ℕ
  pub key : Key
  pub value : Value
  pub way : List ℕ
  pub nearest : Nearest L xs slot key value way
  pub moves : m ≡ length way
  pub after : ys ≡ slice_set (carry xs way (holding key value)) slot vacant

-- a drop of k; work is the lent work area before and after
abbrev pub DropDoes : Layout → List Content → Key → List ℕ → DropAnswer → List Content → List ℕ → Type 0
DropDoes L xs k was (dropped m s) ys is =
    (3 * slots L ≤ length was)
    × ((i : ℕ) × Found L xs k i × (Rested L (slice_set xs i vacant) m ys ⊎ Refilled L (slice_set xs i vacant) m ys))
    × (s ≡ stashed L ys) × (is ≡ blank was)
DropDoes L xs k was too_short ys is = (length was < 3 * slots L) × (ys ≡ xs) × (is ≡ was)
DropDoes L xs k was not_held ys is = (3 * slots L ≤ length was) × Missing L xs k × (ys ≡ xs) × (is ≡ blank was)
