-- Calls of a table by their arguments, and which keys with which values these make held.
use Rattle.std.specs.Prelude.{◌≡◌, ℕ, ◌*◌, ◌≤◌, ◌≢◌, ◌⊎◌, List, [], ◌∷◌}
use Rattle.seating.specs.Assignments.{Seatable}
use Rattle.seating.specs.Layouts.{Key, Value, Layout, slots}

-- of the work area and the list of a call only the numbers of words count
pub data Call : Type 0 where
  put : Key → Value → ℕ → ℕ → Call
  drop : Key → ℕ → Call

-- the key that a call is about
abbrev pub about : Call → Key
about (put k v work list) = k
about (drop k work) = k

-- the work area, and the list of a put, are long enough
abbrev pub Ample : Layout → Call → Type 0
Ample L (put k v work list) = (3 * slots L ≤ work) × (slots L ≤ list)
Ample L (drop k work) = 3 * slots L ≤ work

-- which keys are held, and with which values
abbrev pub Holdings : Type 1
Holdings = Key → Value → Type 0

-- nothing is held
abbrev pub Nothing : Holdings
Nothing k v = ⊥

-- k is held
abbrev pub Has : Holdings → Key → Type 0
Has H k = (v : Value) × H k v

-- j is k or is held
abbrev pub With : Holdings → Key → Key → Type 0
With H k j = (j ≡ k) ⊎ Has H j

-- what is held after a call, H being held before it
pub data After (L : Layout) (H : Holdings) : Call → Key → Value → Type 0 where
  -- a put of a key not held makes it held if some assignment seats it and all held keys
  enters : {k : Key} {v : Value} {work list : ℕ} → Ample L (put k v work list)
      → (Has H k → ⊥) → Seatable L (With H k) → After L H (put k v work list) k v
  -- a put of a held key gives it another value
  renews : {k : Key} {v : Value} {work list : ℕ} → Ample L (put k v work list)
      → Has H k → After L H (put k v work list) k v
  -- every other key stays held, and so do all keys where the lent memory is too short
  beside : {c : Call} {j : Key} {u : Value} → about c ≢ j → H j u → After L H c j u
  short : {c : Call} {j : Key} {u : Value} → (Ample L c → ⊥) → H j u → After L H c j u

-- what is held after a list of calls, the newest first, B being held at the beginning
abbrev pub Holds : Layout → Holdings → List Call → Holdings
Holds L B [] = B
Holds L B (c ∷ h) = After L (Holds L B h) c
