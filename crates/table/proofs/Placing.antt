-- What a lookup tells of the slots that a key may take, and what a put makes of its answer.
use Rattle.std.proofs.Common.{◌≡◌, ℕ, ◌*◌, ◌<◌, ◌≤◌, ◌⊎◌, List, length, set, Some, None, Ok, Err, Option, Result, subst, refl, ap, inl, inr, MatchOption}
use mathlib.Core.List.{Memᴰ}
use Rattle.keys.specs.declared.refusal.Refusal.{Refusal}
use Rattle.keys.specs.declared.refusal.Refusal.TheVariants.{Full}
use Rattle.seating.specs.Laws.{Sized}
use Rattle.seating.specs.Layouts.{Key, Value, Content, Layout, slots}
use Rattle.seating.specs.Layouts.Content.{vacant, holding}
use Rattle.seating.specs.Lookups.{look_order}
use Rattle.seating.specs.Slots.{at, Sits, stashed}
use Rattle.seating.specs.Steps.{Lent, Roomy, blank, Found, Missing, Rested, Refilled}
use Rattle.seating.specs.Steps.PutAnswer.{seated, renewed, too_short, full}
use Rattle.seating.specs.Steps.DropAnswer.{dropped, too_short as lent_short, not_held}
use Rattle.seating.proofs.Fronting.{order_allowed}
use Rattle.seating.proofs.Looking.{order_has}
use Rattle.table.specs.Looks.{Looks}
use Rattle.table.specs.Promises.{PutPromise, put_done, SeatDoes, PlaceDoes, DropPromise}
use Rattle.table.specs.Tables.{lent}
use Rattle.table.specs.declared.Seated.{Seated}
use Rattle.table.specs.declared.Seated.TheVariants.{In, Renewed}
use Rattle.table.specs.declared.looks.Hit.{Hit}
use Rattle.table.specs.declared.Looked.{Looked}
use Rattle.table.proofs.Promising.{put_promise, drop_promise}

-- what a lookup says of what it hit
abbrev Told : List Content → Key → List ℕ → Option Hit → Type 0
Told xs k is o = MatchOption o ((i : ℕ) → Memᴰ i is → Sits xs k i → ⊥) (λ h. Memᴰ h.slot is × (at xs h.slot ≡ holding k h.value))

pub look_found : (L : Layout) → Sized L → (xs : List Content) (k : Key) (r : Looked Hit) (h : Hit) → Looks xs k (look_order L k) r → r.found ≡ Some h → Found L xs k h.slot
look_found L sized xs k r h l e =
    let c : Told xs k (look_order L k) (Some h) = subst (Told xs k (look_order L k)) e l.slot in
    (order_allowed L sized k h.slot c.0, (h.value, c.1))

pub look_missing : (L : Layout) (xs : List Content) (k : Key) (r : Looked Hit) → Looks xs k (look_order L k) r → r.found ≡ None → Missing L xs k
look_missing L xs k r l e i f =
    let c : Told xs k (look_order L k) None = subst (Told xs k (look_order L k)) e l.slot in
    c i (order_has L k i f.0) f.1

module _ (L : Layout) (xs : List Content) (k : Key) (v : Value) (work was : List ℕ) (room : Roomy L (lent work was)) where
  seat_put : (r : Result Seated Refusal) (ys : List Content) (is : List ℕ) → Missing L xs k → SeatDoes L xs k v was r ys is
      → put_done (λ a. PutPromise L xs k v (lent work was) a ys (lent (blank work) is)) r
  seat_put (Ok (In m)) ys is miss (w, n, e) = put_promise L xs k v (lent work was) (seated m.moved m.stashed) ys (lent (blank work) is) (room, miss, w, n, ap (lent (blank work)) e)
  seat_put (Err (Full c)) ys is miss (st, y, n, e) = put_promise L xs k v (lent work was) (full c) ys (lent (blank work) is) (room, miss, st, y, n, ap (lent (blank work)) e)
  seat_put (Ok Renewed) ys is miss d = absurd d
  seat_put (Err _) ys is miss d = absurd d

  pub place_put : (r : Result Seated Refusal) (ys : List Content) (is : List ℕ) → PlaceDoes L xs k v was r ys is
      → put_done (λ a. PutPromise L xs k v (lent work was) a ys (lent (blank work) is)) r
  place_put r ys is (inl (miss, d)) = seat_put r ys is miss d
  place_put r ys is (inr (e, w, n)) = rw e (put_promise L xs k v (lent work was) renewed ys (lent (blank work) is) (room, w, ap (lent (blank work)) n))

pub short_put : (L : Layout) (xs : List Content) (k : Key) (v : Value) (was : Lent) → (Roomy L was → ⊥) → PutPromise L xs k v was too_short xs was
short_put L xs k v was n = put_promise L xs k v was too_short xs was (n, refl, refl)

pub short_drop : (L : Layout) (xs : List Content) (k : Key) (was : List ℕ) → length was < 3 * slots L → DropPromise L xs k was lent_short xs was
short_drop L xs k was n = drop_promise L xs k was lent_short xs was (n, refl, refl)

pub absent_drop : (L : Layout) (xs : List Content) (k : Key) (was : List ℕ) → 3 * slots L ≤ length was → Missing L xs k → DropPromise L xs k was not_held xs (blank was)
absent_drop L xs k was room miss = drop_promise L xs k was not_held xs (blank was) (room, miss, refl, refl)

pub done_drop : (L : Layout) (xs : List Content) (k : Key) (was : List ℕ) (i m s : ℕ) (ys : List Content) → 3 * slots L ≤ length was → Found L xs k i
    → Rested L (set xs i vacant) m ys ⊎ Refilled L (set xs i vacant) m ys → s ≡ stashed L ys → DropPromise L xs k was (dropped m s) ys (blank was)
done_drop L xs k was i m s ys room f w n = drop_promise L xs k was (dropped m s) ys (blank was) (room, (i, f, w), n, refl)
