-- What a put and a drop promise of the slots of a bank, by their answers.
use Rattle.std.specs.Prelude.{◌≡◌, ℕ, ◌⊎◌, List, ◌∷◌, ◌++◌, length, drop, Ok, Err, Result, slice_set}
use Rattle.keys.specs.declared.refusal.Refusal.{Refusal}
use Rattle.keys.specs.declared.refusal.Refusal.TheVariants.{LentShort, Full, NotHeld}
use Rattle.seating.specs.Blocking.{blocking}
use Rattle.seating.specs.Calls.{Call, Nothing, Holds}
use Rattle.seating.specs.Calls.Call.{drop as drop_call}
use Rattle.seating.specs.Fronts.{front, rest}
use Rattle.seating.specs.Layouts.{Key, Value, Content, Layout}
use Rattle.seating.specs.Layouts.Content.{holding}
use Rattle.seating.specs.Maps.{PutMaps, DropMaps}
use Rattle.seating.specs.Runs.{Ran, fresh, Law, Outcome}
use Rattle.seating.specs.Slots.{moved, stashed, value_of}
use Rattle.seating.specs.Steps.{Lent, Found, Missing, Pathed, Stowed, Stuck, PutAnswer, PutDoes, DropAnswer, DropDoes}
use Rattle.seating.specs.Steps.PutAnswer.{seated, renewed, too_short, full}
use Rattle.seating.specs.Steps.DropAnswer.{dropped, too_short as lent_short, not_held}
use Rattle.seating.specs.Tables.{Sound}
use Rattle.table.specs.declared.Moves.{Moves}
use Rattle.table.specs.declared.Seated.{Seated}
use Rattle.table.specs.declared.Seated.TheVariants.{In, Renewed}

-- the moves that a put answers are shown by the slots
abbrev pub PutShows : PutAnswer → List Content → List Content → Type 0
PutShows (seated m s) xs ys = m ≡ moved xs ys
PutShows _ xs ys = Unit {0}

-- a put on a bank with the slots xs, which has the slots ys then
pub record PutPromise (L : Layout) (xs : List Content) (k : Key) (v : Value) (was : Lent) (a : PutAnswer) (ys : List Content) (is : Lent) : Type 0 where
  pub step : PutDoes L (front L xs) k v was a (front L ys) is
  pub rest : rest L ys ≡ rest L xs
  pub sound : Sound L (front L xs) → Sound L (front L ys)
  pub moves : Sound L (front L xs) → PutShows a (front L xs) (front L ys)
  pub map : Sound L (front L xs) → PutMaps (value_of (front L xs)) k v a (value_of (front L ys))
  pub law : (h : List Call) → Ran L (fresh L) h (front L xs) → Outcome L Nothing h k v was a (front L ys) is

-- the answer of a put, told of P
abbrev pub put_done : (PutAnswer → Type 0) → Result Seated Refusal → Type 0
put_done P (Ok (In m)) = P (seated m.moved m.stashed)
put_done P (Ok Renewed) = P renewed
put_done P (Err LentShort) = P too_short
put_done P (Err (Full c)) = P (full c)
put_done P (Err _) = ⊥

-- and those that a drop answers
abbrev pub DropShows : DropAnswer → List Content → List Content → Type 0
DropShows (dropped m s) xs ys = m ≡ moved xs ys
DropShows _ xs ys = Unit {0}

-- a drop on a bank with the slots xs, which has the slots ys then
pub record DropPromise (L : Layout) (xs : List Content) (k : Key) (was : List ℕ) (a : DropAnswer) (ys : List Content) (is : List ℕ) : Type 0 where
  pub step : DropDoes L (front L xs) k was a (front L ys) is
  pub rest : rest L ys ≡ rest L xs
  pub sound : Sound L (front L xs) → Sound L (front L ys)
  pub moves : Sound L (front L xs) → DropShows a (front L xs) (front L ys)
  pub map : Sound L (front L xs) → DropMaps (value_of (front L xs)) k a (value_of (front L ys))
  pub law : (h : List Call) → Ran L (fresh L) h (front L xs) → Law L (Holds L Nothing (drop_call k (length was) ∷ h)) (front L ys)

-- the answer of a drop, told of P
abbrev pub drop_done : (DropAnswer → Type 0) → Result Moves Refusal → Type 0
drop_done P (Ok m) = P (dropped m.moved m.stashed)
drop_done P (Err LentShort) = P lent_short
drop_done P (Err NotHeld) = P not_held
drop_done P (Err _) = ⊥

-- a key that is not held was seated, or is refused
abbrev pub SeatDoes : Layout → List Content → Key → Value → List ℕ → Result Seated Refusal → List Content → List ℕ → Type 0
SeatDoes L xs k v was (Ok (In m)) ys is =
    (Pathed L xs k v m.moved ys ⊎ Stowed L xs k v m.moved ys) × (m.stashed ≡ stashed L ys) × (is ≡ was)
SeatDoes L xs k v was (Ok Renewed) ys is = ⊥
SeatDoes L xs k v was (Err (Full c)) ys is =
    Stuck L xs k × (ys ≡ xs) × (c ≡ length (blocking L xs k)) × (is ≡ blocking L xs k ++ drop c was)
SeatDoes L xs k v was (Err _) ys is = ⊥

-- a put with enough lent memory: a held key has a new value, and another is seated or refused
abbrev pub PlaceDoes : Layout → List Content → Key → Value → List ℕ → Result Seated Refusal → List Content → List ℕ → Type 0
PlaceDoes L xs k v was r ys is =
    (Missing L xs k × SeatDoes L xs k v was r ys is)
    ⊎ ((r ≡ Ok Renewed) × ((i : ℕ) × Found L xs k i × (ys ≡ slice_set xs i (holding k v))) × (is ≡ was))
