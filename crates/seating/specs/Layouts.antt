-- What a cuckoo table with a stash is made of: keys, what a slot holds, and which slots a key may take.
use Rattle.std.specs.Prelude.{ℕ, ◌+◌, ◌*◌, ◌/◌, ◌<◌, ◌≤◌, ◌⊎◌, List}
use mathlib.Core.List.{Memᴰ}

-- a key is its bytes, in order
abbrev pub Key : Type 0
Key = List ℕ

-- a value has 64 bits
abbrev pub Value : Type 0
Value = ℕ

-- what a slot holds
pub data Content : Type 0 where
  vacant : Content
  holding : Key → Value → Content

-- the sizes of a table, and the buckets that each key chooses, in order
pub record Layout : Type 0 where
  pub buckets : ℕ
  pub width : ℕ
  pub stash : ℕ
  pub choices : Key → List ℕ

-- the slots of buckets come first
abbrev pub bucket_slots : Layout → ℕ
bucket_slots L = L.buckets * L.width

-- all slots of the table; the stash comes last
abbrev pub slots : Layout → ℕ
slots L = bucket_slots L + L.stash

-- slot i belongs to bucket b: the buckets lie one after another
abbrev pub InBucket : Layout → ℕ → ℕ → Type 0
InBucket L b i = (b * L.width ≤ i) × (i < b * L.width + L.width)

-- slot i is in a bucket that k chooses
abbrev pub Candidate : Layout → Key → ℕ → Type 0
Candidate L k i = (i < bucket_slots L) × Memᴰ (i / L.width) (L.choices k)

-- slot i belongs to the stash
abbrev pub Stash : Layout → ℕ → Type 0
Stash L i = (bucket_slots L ≤ i) × (i < slots L)

-- the slots that k may take
abbrev pub Allowed : Layout → Key → ℕ → Type 0
Allowed L k i = Candidate L k i ⊎ Stash L i
