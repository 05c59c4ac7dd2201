-- Cuckoo paths: how held keys make room for another, and what becomes of the slots.
use Rattle.std.specs.Prelude.{◌≡◌, ℕ, ◌≤◌, List, [], ◌∷◌, length, slice_set}
use mathlib.Core.List.{Memᴰ}
use Rattle.seating.specs.Layouts.{Key, Value, Content, Layout, Candidate, Stash}
use Rattle.seating.specs.Layouts.Content.{vacant, holding}
use Rattle.seating.specs.Slots.{at, Sits}

-- a path from a key by moves that May allows: the key goes to the first slot, the key that sits there to the next, and so
-- on; only the last slot is vacant
pub data Path (May : Key → ℕ → Type 0) (xs : List Content) : Key → List ℕ → Type 0 where
  last : {k : Key} {i : ℕ} → May k i → at xs i ≡ vacant → Path May xs k (i ∷ [])
  next : {k h : Key} {i : ℕ} {is : List ℕ} → May k i → Sits xs h i → Path May xs h is → Path May xs k (i ∷ is)

-- a cuckoo path goes through candidate slots only
abbrev pub CuckooPath : Layout → List Content → Key → List ℕ → Type 0
CuckooPath L xs k is = Path (Candidate L) xs k is

-- k has no cuckoo path
abbrev pub Pathless : Layout → List Content → Key → Type 0
Pathless L xs k = (is : List ℕ) → CuckooPath L xs k is → ⊥

-- a shortest cuckoo path of k
pub record Shortest (L : Layout) (xs : List Content) (k : Key) (is : List ℕ) : Type 0 where
  pub path : CuckooPath L xs k is
  pub least : (js : List ℕ) → CuckooPath L xs k js → length is ≤ length js

-- a shortest one over all keys of the stash: that of h, which sits with w in slot t
pub record Nearest (L : Layout) (xs : List Content) (t : ℕ) (h : Key) (w : Value) (is : List ℕ) : Type 0 where
  pub stash : Stash L t
  pub here : at xs t ≡ holding h w
  pub path : CuckooPath L xs h is
  pub least : (g : Key) (s : ℕ) (js : List ℕ) → Stash L s → Sits xs g s → CuckooPath L xs g js → length is ≤ length js

-- no slot comes twice
abbrev pub Distinct : List ℕ → Type 0
Distinct [] = Unit {0}
Distinct (i ∷ is) = (Memᴰ i is → ⊥) × Distinct is

-- a path carried out from its last slot back: what a slot holds moves to the next one, and c goes into the first
abbrev pub carry : List Content → List ℕ → Content → List Content
carry xs [] c = xs
carry xs (i ∷ is) c = slice_set (carry xs is (at xs i)) i c
