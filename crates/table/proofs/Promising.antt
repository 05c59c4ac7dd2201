-- From what a call does to a bank to all that it promises.
use Rattle.std.proofs.Common.{◌≡◌, ℕ, List, [], ◌∷◌, length, Option, ap, ◌∙◌}
use Rattle.std.specs.Option.{option_map}
use Rattle.seating.specs.Calls.Call.{drop}
use Rattle.seating.specs.Fronts.{front}
use Rattle.seating.specs.Laws.{Sized}
use Rattle.seating.specs.Layouts.{Key, Value, Content, Layout}
use Rattle.seating.specs.Lookups.{look_order, lookup}
use Rattle.seating.specs.Runs.{Ran, fresh}
use Rattle.seating.specs.Runs.Ran.{begun, dropping}
use Rattle.seating.specs.Slots.{value_of}
use Rattle.seating.specs.Steps.{Lent, MakeDoes, PutAnswer, PutDoes, DropAnswer, DropDoes}
use Rattle.seating.specs.Steps.MakeAnswer.{made}
use Rattle.seating.specs.Steps.PutAnswer.{seated}
use Rattle.seating.specs.Steps.DropAnswer.{dropped}
use Rattle.seating.specs.Tables.{Sound}
use Rattle.seating.proofs.Fronting.{put_front, drop_front_lem, get_front_lem}
use Rattle.seating.proofs.Keeping.{put_sound_lem, drop_sound_lem}
use Rattle.seating.proofs.Looking.{get_map_law_lem}
use Rattle.seating.proofs.Making.{make_sound_lem}
use Rattle.seating.proofs.MapLaws.{put_map_law_lem, drop_map_law_lem}
use Rattle.seating.proofs.Moved.{put_moves_lem, drop_moves_lem}
use Rattle.seating.proofs.RunLaws.{run_law_lem, outcome_law_lem}
use Rattle.table.specs.Looks.{Looks}
use Rattle.table.specs.Promises.{PutShows, PutPromise, DropShows, DropPromise}
use Rattle.table.specs.declared.Looked.{Looked}
use Rattle.table.specs.declared.looks.Hit.{Hit}

put_shows : (L : Layout) (xs : List Content) (k : Key) (v : Value) (was : Lent) (a : PutAnswer) (ys : List Content) (is : Lent)
    → PutDoes L xs k v was a ys is → Sound L xs → PutShows a xs ys
put_shows L xs k v was (seated m s) ys is d g = put_moves_lem L xs k v was m s ys is d g
put_shows L xs k v was _ ys is d g = tt

pub put_promise : (L : Layout) (xs : List Content) (k : Key) (v : Value) (was : Lent) (a : PutAnswer) (ys : List Content) (is : Lent)
    → PutDoes L xs k v was a ys is → PutPromise L xs k v was a ys is
put_promise L xs k v was a ys is d =
    let f = put_front L xs k v was a ys is d in record {
      step = f.0;
      rest = f.1;
      sound = put_sound_lem L (front L xs) k v was a (front L ys) is f.0;
      moves = put_shows L (front L xs) k v was a (front L ys) is f.0;
      map = put_map_law_lem L (front L xs) k v was a (front L ys) is f.0;
      law = λ h r. outcome_law_lem L h (front L xs) k v was a (front L ys) is r f.0;
    }

drop_shows : (L : Layout) (xs : List Content) (k : Key) (was : List ℕ) (a : DropAnswer) (ys : List Content) (is : List ℕ)
    → DropDoes L xs k was a ys is → Sound L xs → DropShows a xs ys
drop_shows L xs k was (dropped m s) ys is d g = drop_moves_lem L xs k was m s ys is d g
drop_shows L xs k was _ ys is d g = tt

pub drop_promise : (L : Layout) (xs : List Content) (k : Key) (was : List ℕ) (a : DropAnswer) (ys : List Content) (is : List ℕ)
    → DropDoes L xs k was a ys is → DropPromise L xs k was a ys is
drop_promise L xs k was a ys is d =
    let f = drop_front_lem L xs k was a ys is d in record {
      step = f.0;
      rest = f.1;
      sound = drop_sound_lem L (front L xs) k was a (front L ys) is f.0;
      moves = drop_shows L (front L xs) k was a (front L ys) is f.0;
      map = drop_map_law_lem L (front L xs) k was a (front L ys) is f.0;
      law = λ h r. run_law_lem L (drop k (length was) ∷ h) (front L ys) (dropping was is a r f.0);
    }

-- a table made new is sound, and has run no call
pub made_new : (L : Layout) (xs ys : List Content) → MakeDoes L xs made ys → Sound L (front L ys) × Ran L (fresh L) [] (front L ys)
made_new L xs ys d = let r = make_sound_lem L xs ys d in rw r.0 (r.1, begun)

-- what a lookup answers
pub get_answer : (L : Layout) (xs : List Content) (k : Key) (r : Looked Hit) → Sized L → Looks xs k (look_order L k) r
    → (option_map (λ h. h.value) r.found, r.looks) ≡ lookup L (front L xs) k
get_answer L xs k r sized l = rw (← l.value, ← l.count) (get_front_lem L xs k sized)

pub got_map : (L : Layout) (xs : List Content) (k : Key) (o : Option Value) (n : ℕ) → (o, n) ≡ lookup L xs k → Sound L xs → o ≡ value_of xs k
got_map L xs k o n e s = ap (λ (p : Option Value × ℕ). p.0) e ∙ (get_map_law_lem L xs k s.law).0
