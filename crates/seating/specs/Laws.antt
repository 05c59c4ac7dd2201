-- What the definitions of a layout come to.
use Rattle.std.specs.Prelude.{ℕ, ◌<◌, ◌≤◌, ◌↔◌}
use mathlib.Core.List.{Memᴰ}
use Rattle.seating.specs.Layouts.{Key, Layout, slots, InBucket, Candidate, Stash, Allowed}

-- a table's buckets have a slot at least, and keys choose only buckets that exist
pub record Sized (L : Layout) : Type 0 where
  pub wide : 1 ≤ L.width
  pub inside : (k : Key) (b : ℕ) → Memᴰ b (L.choices k) → b < L.buckets

-- the candidate slots of a key are all slots of the buckets that it chooses
abbrev pub CandidatesAreBuckets : Type 0
CandidatesAreBuckets =
    (L : Layout) → Sized L → (k : Key) (i : ℕ) → Candidate L k i ↔ ((b : ℕ) × Memᴰ b (L.choices k) × InBucket L b i)

-- every slot that a key may take is a slot of the table, and no candidate slot is a stash slot
abbrev pub AllowedInside : Type 0
AllowedInside =
    (L : Layout) (k : Key) (i : ℕ) → (Allowed L k i → i < slots L) × (Candidate L k i → Stash L i → ⊥)
