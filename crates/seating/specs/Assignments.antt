-- Assignments: where keys could sit, whatever the slots hold now.
use Rattle.std.specs.Prelude.{◌≡◌, ℕ, List, count_by, nat_le}
use Rattle.seating.specs.Layouts.{Key, Layout, bucket_slots, Allowed}

-- f assigns the keys of which K holds: each has a slot that it may take, and no two have the same
pub record Seats (L : Layout) (K : Key → Type 0) (f : Key → ℕ) : Type 0 where
  pub allowed : (k : Key) → K k → Allowed L k (f k)
  pub apart : (j k : Key) → K j → K k → f j ≡ f k → j ≡ k

-- some assignment seats the keys of which K holds
abbrev pub Seatable : Layout → (Key → Type 0) → Type 0
Seatable L K = (f : Key → ℕ) × Seats L K f

-- no assignment does
abbrev pub Unseatable : Layout → (Key → Type 0) → Type 0
Unseatable L K = (f : Key → ℕ) → Seats L K f → ⊥

-- how many of some keys f puts into the stash
abbrev pub stashed_by : Layout → (Key → ℕ) → List Key → ℕ
stashed_by L f ks = count_by (λ k. nat_le (bucket_slots L) (f k)) ks
