-- Runs of calls, and the law that holds after every run.
use Rattle.std.specs.Prelude.{◌≡◌, ℕ, ◌≤◌, ◌≢◌, ◌⊎◌, ◌↔◌, List, [], ◌∷◌, length, take, replicate, Some}
use mathlib.Core.List.{Memᴰ}
use Rattle.seating.specs.Assignments.{Seats, Seatable, Unseatable, stashed_by}
use Rattle.seating.specs.Calls.{Call, Holdings, Nothing, Has, With, Holds}
use Rattle.seating.specs.Calls.Call.{put, drop}
use Rattle.seating.specs.Layouts.{Key, Value, Content, Layout, slots, Allowed}
use Rattle.seating.specs.Layouts.Content.{vacant}
use Rattle.seating.specs.Slots.{Sits, Stored, keys, stashed, value_of}
use Rattle.seating.specs.Steps.{Lent, Roomy, PutAnswer, PutDoes, DropAnswer, DropDoes}
use Rattle.seating.specs.Steps.PutAnswer.{seated, renewed, too_short, full}
use Rattle.seating.specs.Tables.{Sound}

-- the slots of a table after some calls, the newest first, each of which did its part or met a refusal
pub data Ran (L : Layout) (start : List Content) : List Call → List Content → Type 0 where
  begun : Ran L start [] start
  putting : {h : List Call} {xs ys : List Content} {k : Key} {v : Value} (was is : Lent) (a : PutAnswer)
      → Ran L start h xs → PutDoes L xs k v was a ys is
      → Ran L start (put k v (length was.work) (length was.list) ∷ h) ys
  dropping : {h : List Call} {xs ys : List Content} {k : Key} (was is : List ℕ) (a : DropAnswer)
      → Ran L start h xs → DropDoes L xs k was a ys is → Ran L start (drop k (length was) ∷ h) ys

-- the slots of a table made new
abbrev pub fresh : Layout → List Content
fresh L = replicate (slots L) vacant

abbrev pub Refused : PutAnswer → Type 0
Refused a = (c : ℕ) × (a ≡ full c)

abbrev pub Accepted : PutAnswer → Type 0
Accepted (seated m s) = Unit {0}
Accepted renewed = Unit {0}
Accepted too_short = ⊥
Accepted (full c) = ⊥

-- refused as full exactly when no assignment seats k and all held keys, and accepted otherwise
pub record Decided (L : Layout) (H : Holdings) (k : Key) (a : PutAnswer) : Type 0 where
  pub refused : Refused a ↔ Unseatable L (With H k)
  pub accepted : Accepted a ↔ Seatable L (With H k)

-- the keys that a refusal of k names: k, and those in the listed slots
abbrev pub Named : List Content → Key → List ℕ → Key → Type 0
Named xs k cs j = (j ≡ k) ⊎ ((i : ℕ) × Memᴰ i cs × Sits xs j i)

-- k and all held keys but j
abbrev pub Others : Holdings → Key → Key → Key → Type 0
Others H k j h = With H k h × (h ≢ j)

-- the named keys are exactly those, held or new, of which each one, left out alone, lets all the others be seated
abbrev pub Blamed : Layout → Holdings → List Content → Key → List ℕ → Type 0
Blamed L H xs k cs = (j : Key) → Named xs k cs j ↔ (With H k j × Seatable L (Others H k j))

-- the slots hold what H says and nothing else, each key once and where it may sit, and no assignment of these keys has
-- fewer in the stash
pub record Kept (L : Layout) (H : Holdings) (xs : List Content) : Type 0 where
  pub exact : (k : Key) (v : Value) → Stored xs k v ↔ H k v
  pub once : (k : Key) (i j : ℕ) → Sits xs k i → Sits xs k j → i ≡ j
  pub placed : (k : Key) (i : ℕ) → Sits xs k i → Allowed L k i
  pub least : (f : Key → ℕ) → Seats L (Has H) f → stashed L xs ≤ stashed_by L f (keys xs)

-- the law of a table with the slots xs, H being held:
-- (a) the next put of a key not held, with enough lent memory, is decided by assignments alone;
-- (b) the keys named with its refusal are those that help;
-- (c) the slots hold what is held, with the fewest keys in the stash
pub record Law (L : Layout) (H : Holdings) (xs : List Content) : Type 0 where
  pub decided : (k : Key) (v : Value) (was is : Lent) (a : PutAnswer) (ys : List Content) → PutDoes L xs k v was a ys is
      → (Has H k → ⊥) → Roomy L was → Decided L H k a
  pub named : (k : Key) (v : Value) (was is : Lent) (c : ℕ) (ys : List Content) → PutDoes L xs k v was (full c) ys is
      → Blamed L H ys k (take c is.list)
  pub kept : Kept L H xs

-- after every list of calls on a table made new, refused ones included
abbrev pub RunLaw : Type 0
RunLaw = (L : Layout) (h : List Call) (xs : List Content) → Ran L (fresh L) h xs → Law L (Holds L Nothing h) xs

-- the same of one list of calls and one put behind them, by what a caller sees: the answer, the list, and the slots after
pub record Outcome (L : Layout) (B : Holdings) (h : List Call) (k : Key) (v : Value) (was : Lent) (a : PutAnswer) (ys : List Content) (is : Lent) : Type 0 where
  pub decided : (Has (Holds L B h) k → ⊥) → Roomy L was → Decided L (Holds L B h) k a
  pub named : (c : ℕ) → a ≡ full c → Blamed L (Holds L B h) ys k (take c is.list)
  pub kept : Kept L (Holds L B (put k v (length was.work) (length was.list) ∷ h)) ys

abbrev pub OutcomeLaw : Type 0
OutcomeLaw =
    (L : Layout) (h : List Call) (xs : List Content) (k : Key) (v : Value) (was : Lent) (a : PutAnswer) (ys : List Content) (is : Lent)
    → Ran L (fresh L) h xs → PutDoes L xs k v was a ys is → Outcome L Nothing h k v was a ys is

-- the same from any sound beginning, which holds what its slots hold
abbrev pub RunLawFrom : Type 0
RunLawFrom =
    (L : Layout) (start : List Content) → Sound L start → (h : List Call) (xs : List Content) → Ran L start h xs
    → Law L (Holds L (Stored start) h) xs

-- every call has a step, whatever the slots hold, and so every list of calls has a run
abbrev pub PutExists : Type 0
PutExists =
    (L : Layout) (xs : List Content) (k : Key) (v : Value) (was : Lent)
    → (a : PutAnswer) × ((ys : List Content) × ((is : Lent) × PutDoes L xs k v was a ys is))

abbrev pub DropExists : Type 0
DropExists =
    (L : Layout) (xs : List Content) (k : Key) (was : List ℕ)
    → (a : DropAnswer) × ((ys : List Content) × ((is : List ℕ) × DropDoes L xs k was a ys is))

abbrev pub RunExists : Type 0
RunExists = (L : Layout) (start : List Content) (h : List Call) → (xs : List Content) × Ran L start h xs

-- what a list of calls makes held is a finite map: that of some slots
abbrev pub HeldMap : Type 0
HeldMap =
    (L : Layout) (h : List Call)
    → (xs : List Content) × (length xs ≡ slots L) × ((k : Key) (v : Value) → (value_of xs k ≡ Some v) ↔ Holds L Nothing h k v)
