-- What a search goes over, and the ways through it.
use Rattle.std.specs.Prelude.{◌≡◌, ℕ, zero, suc, List, [], ◌∷◌}
use Rattle.seating.specs.Layouts.{Key, Value, Content, Layout, Candidate}
use Rattle.seating.specs.Layouts.Content.{vacant, holding}
use Rattle.seating.specs.Slots.{at}

pub record Scene : Type 0 where
  pub layout : Layout
  pub slots : List Content

-- the sources of a search: from source 0 the root slots are near; source t + 1 is the key in slot t, and its candidates are near
abbrev pub Near : Scene → (ℕ → Type 0) → ℕ → ℕ → Type 0
Near h R zero i = R i
Near h R (suc t) i = (k : Key) × (v : Value) × (at h.slots t ≡ holding k v) × Candidate h.layout k i

-- a way from a source to a vacant slot, each slot near the key in the one before
pub data Way (h : Scene) (R : ℕ → Type 0) : ℕ → List ℕ → Type 0 where
  last : {u i : ℕ} → Near h R u i → at h.slots i ≡ vacant → Way h R u (i ∷ [])
  next : {u i : ℕ} {is : List ℕ} → Near h R u i → Way h R (suc i) is → Way h R u (i ∷ is)
