-- What is done within the first slots of a bank is done to them.
use Rattle.std.proofs.Common.{◌≡◌, ℕ, zero, suc, ◌+◌, ◌*◌, ◌<◌, ◌≤◌, ◌⊎◌, List, [], ◌∷◌, length, take, drop as past, set, sym, refl, ap, ◌∙◌, inl, inr, arith, get_or-take, take-take}
use mathlib.Core.List.Memᴰ
use mathlib.Core.List.{Memᴰ}
use lib.Seq.{take-set-lt}
use Rattle.std.specs.List.{range_with_len, flat_map}
use Rattle.std.proofs.lemmas.List.{drop-set-lt, drop-take}
use Rattle.seating.specs.Blocking.{blocking}
use Rattle.seating.specs.Fronts.{front, rest, PutFront, DropFront, GetFront}
use Rattle.seating.specs.Laws.{Sized}
use Rattle.seating.specs.Layouts.{Key, Value, Content, Layout, bucket_slots, slots, Allowed}
use Rattle.seating.specs.Layouts.Content.{vacant, holding}
use Rattle.seating.specs.Lookups.{bucket_list, look_order, look_in}
use Rattle.seating.specs.Paths.{CuckooPath, Pathless, Shortest, Nearest, carry}
use Rattle.seating.specs.Slots.{at, Sits, keys, stashed}
use Rattle.seating.specs.Steps.{Found, Missing, Rested, Refilled}
use Rattle.seating.specs.Steps.PutAnswer.{seated, renewed, too_short, full}
use Rattle.seating.specs.Steps.DropAnswer.{dropped, too_short as lent_short, not_held}
use Rattle.seating.specs.Tables.{Settled}
use Rattle.seating.proofs.Blockings.{Reach, reach_low, blocking_reached, blocking_least_lem}
use Rattle.seating.proofs.Blockings.Reach.{start, onward}
use Rattle.seating.proofs.Buckets.{candidates}
use Rattle.seating.proofs.Listing.{ascending_same}
use Rattle.seating.proofs.Loops.{low_path}
use Rattle.seating.proofs.Settling.{path_same}
use Rattle.seating.proofs.Sitting.{in_slots}

module _ (L : Layout) (xs : List Content) where
  at_front : (i : ℕ) → i < slots L → at (front L xs) i ≡ at xs i
  at_front i l = get_or-take (slots L) xs i vacant l

  into : (i : ℕ) → i < slots L → (h : Key) → Sits xs h i → Sits (front L xs) h i
  into i l h s = (s.0, at_front i l ∙ s.1)

  from : (i : ℕ) → i < slots L → (h : Key) → Sits (front L xs) h i → Sits xs h i
  from i l h s = (s.0, sym (at_front i l) ∙ s.1)

  path_into : {k : Key} {is : List ℕ} → CuckooPath L xs k is → CuckooPath L (front L xs) k is
  path_into = path_same (λ k j c. ((λ e. at_front j (in_slots L k j (inl c)) ∙ e), into j (in_slots L k j (inl c))))

  path_from : {k : Key} {is : List ℕ} → CuckooPath L (front L xs) k is → CuckooPath L xs k is
  path_from = path_same (λ k j c. ((λ e. sym (at_front j (in_slots L k j (inl c))) ∙ e), from j (in_slots L k j (inl c))))

  shortest_front : {k : Key} {is : List ℕ} → Shortest L xs k is → Shortest L (front L xs) k is
  shortest_front s = record { path = path_into s.path; least = λ js p. s.least js (path_from p) }

  pathless_front : {k : Key} → Pathless L xs k → Pathless L (front L xs) k
  pathless_front n is p = n is (path_from p)

  missing_front : (k : Key) → Missing L xs k → Missing L (front L xs) k
  missing_front k n i f = n i (f.0, from i (in_slots L k i f.0) k f.1)

  found_front : (k : Key) (i : ℕ) → Found L xs k i → Found L (front L xs) k i
  found_front k i f = (f.0, into i (in_slots L k i f.0) k f.1)

  settled_front : Settled L xs → Settled L (front L xs)
  settled_front rest h t st s is p = rest h t st (from t st.1 h s) is (path_from p)

  nearest_front : (t : ℕ) (h : Key) (w : Value) (is : List ℕ) → Nearest L xs t h w is → Nearest L (front L xs) t h w is
  nearest_front t h w is z = record {
    stash = z.stash;
    here = at_front t z.stash.1 ∙ z.here;
    path = path_into z.path;
    least = λ g s js st si p. z.least g s js st (from s st.1 g si) (path_from p);
  }

  stashed_front : stashed L (front L xs) ≡ stashed L xs
  stashed_front = ap (λ (ys : List Content). length (keys ys))
      (ap (take L.stash) (drop-take (bucket_slots L) L.stash xs) ∙ take-take L.stash L.stash (past (bucket_slots L) xs) (omega arith))

  reach_into : (k : Key) (i : ℕ) → Reach L xs k i → Reach L (front L xs) k i
  reach_into k i (start m) = start m
  reach_into k i (onward {h = h} {i = j} r s m) = onward (reach_into k j r) (into j (reach_low L xs k j r) h s) m

  reach_from : (k : Key) (i : ℕ) → Reach L (front L xs) k i → Reach L xs k i
  reach_from k i (start m) = start m
  reach_from k i (onward {h = h} {i = j} r s m) = onward (reach_from k j r) (from j (reach_low L (front L xs) k j r) h s) m

  blocking_front : (k : Key) → blocking L (front L xs) k ≡ blocking L xs k
  blocking_front k = ascending_same (blocking L (front L xs) k) (blocking L xs k)
      (blocking_least_lem L (front L xs) k).ascends (blocking_least_lem L xs k).ascends
      (λ i m. (blocking_reached L xs k i).1 (reach_from k i ((blocking_reached L (front L xs) k i).0 m)))
      (λ i m. (blocking_reached L (front L xs) k i).1 (reach_into k i ((blocking_reached L xs k i).0 m)))

  set_front : (i : ℕ) (c : Content) → i < slots L → front L (set xs i c) ≡ set (front L xs) i c
  set_front i c l = take-set-lt (slots L) xs i c l

  carry_front : (is : List ℕ) (c : Content) → ((i : ℕ) → Memᴰ i is → i < slots L)
      → (front L (carry xs is c) ≡ carry (front L xs) is c) × (rest L (carry xs is c) ≡ rest L xs)
  carry_front [] c low = (refl, refl)
  carry_front (i ∷ is) c low =
      let l : i < slots L = low i (Memᴰ.head refl) in
      let r = carry_front is (at xs i) (λ j q. low j (Memᴰ.tail q)) in (
        take-set-lt (slots L) (carry xs is (at xs i)) i c l ∙ ap (λ (ys : List Content). set ys i c) (r.0 ∙ ap (carry (front L xs) is) (sym (at_front i l))),
        drop-set-lt (slots L) (carry xs is (at xs i)) i c l ∙ r.1,
      )

  way_low : {k : Key} {is : List ℕ} → CuckooPath L xs k is → (i : ℕ) → Memᴰ i is → i < slots L
  way_low p i m = omega (arith, low_path L p i m)

-- slots that became ys by an equation, seen from the front
kept_stashed : (L : Layout) (ys : List Content) (s : ℕ) → s ≡ stashed L ys → s ≡ stashed L (front L ys)
kept_stashed L ys s e = e ∙ sym (stashed_front L ys)

pub put_front : PutFront
put_front L xs k v was (seated m s) ys is (room, miss, inl p, n, e) =
    let r = carry_front L xs p.way (holding k v) (way_low L xs p.shortest.path) in (
      (
        room,
        missing_front L xs k miss,
        inl (record { way = p.way; shortest = shortest_front L xs p.shortest; moves = p.moves; after = ap (front L) p.after ∙ r.0 }),
        kept_stashed L ys s n,
        e,
      ),
      ap (rest L) p.after ∙ r.1,
    )
put_front L xs k v was (seated m s) ys is (room, miss, inr p, n, e) = (
  (
    room,
    missing_front L xs k miss,
    inr (record {
      none = pathless_front L xs p.none;
      slot = p.slot;
      stash = p.stash;
      free = at_front L xs p.slot p.stash.1 ∙ p.free;
      moves = p.moves;
      after = ap (front L) p.after ∙ set_front L xs p.slot (holding k v) p.stash.1;
    }),
    kept_stashed L ys s n,
    e,
  ),
  ap (rest L) p.after ∙ drop-set-lt (slots L) xs p.slot (holding k v) p.stash.1,
)
put_front L xs k v was renewed ys is (room, (i, f, e), b) =
    let l : i < slots L = in_slots L k i f.0 in (
      (room, (i, found_front L xs k i f, ap (front L) e ∙ set_front L xs i (holding k v) l), b),
      ap (rest L) e ∙ drop-set-lt (slots L) xs i (holding k v) l,
    )
put_front L xs k v was too_short ys is (n, e, b) = ((n, ap (front L) e, b), ap (rest L) e)
put_front L xs k v was (full c) ys is (room, miss, st, e, n, b) =
    let same = blocking_front L xs k in (
      (
        room,
        missing_front L xs k miss,
        record {
          none = pathless_front L xs st.none;
          filled = λ t s. (let (h, p) = st.filled t s in (h, into L xs t s.1 h p));
        },
        ap (front L) e,
        rw same n,
        rw same b,
      ),
      ap (rest L) e,
    )

-- a drop, once the slot is emptied
dropped_front : (L : Layout) (xs : List Content) (m : ℕ) (ys : List Content) → Rested L xs m ys ⊎ Refilled L xs m ys
    → (Rested L (front L xs) m (front L ys) ⊎ Refilled L (front L xs) m (front L ys)) × (rest L ys ≡ rest L xs)
dropped_front L xs m ys (inl p) =
    (inl (record { settled = settled_front L xs p.settled; moves = p.moves; after = ap (front L) p.after }), ap (rest L) p.after)
dropped_front L xs m ys (inr p) =
    let z = p.nearest in
    let c = holding p.key p.value in
    let r = carry_front L xs p.way c (way_low L xs z.path) in
    let l : p.slot < slots L = z.stash.1 in (
      inr (record {
        slot = p.slot;
        key = p.key;
        value = p.value;
        way = p.way;
        nearest = nearest_front L xs p.slot p.key p.value p.way z;
        moves = p.moves;
        after = ap (front L) p.after ∙ set_front L (carry xs p.way c) p.slot vacant l ∙ ap (λ (zs : List Content). set zs p.slot vacant) r.0;
      }),
      ap (rest L) p.after ∙ drop-set-lt (slots L) (carry xs p.way c) p.slot vacant l ∙ r.1,
    )

pub drop_front_lem : DropFront
drop_front_lem L xs k was (dropped m s) ys is (room, (i, f, way), n, b) =
    let l : i < slots L = in_slots L k i f.0 in
    let e = set_front L xs i vacant l in
    let r = dropped_front L (set xs i vacant) m ys way in
    ((room, (i, found_front L xs k i f, rw e at r.0), kept_stashed L ys s n, b), r.1 ∙ drop-set-lt (slots L) xs i vacant l)
drop_front_lem L xs k was lent_short ys is (n, e, b) = ((n, ap (front L) e, b), ap (rest L) e)
drop_front_lem L xs k was not_held ys is (room, miss, e, b) = ((room, missing_front L xs k miss, ap (front L) e, b), ap (rest L) e)

-- a lookup goes through the table's own slots
look_same : (L : Layout) (xs : List Content) (k : Key) (is : List ℕ) → ((i : ℕ) → Memᴰ i is → i < slots L) → look_in xs k is ≡ look_in (front L xs) k is
look_same L xs k [] low = refl
look_same L xs k (i ∷ is) low =
    rw (at_front L xs i (low i (Memᴰ.head refl)), look_same L xs k is (λ j q. low j (Memᴰ.tail q))) refl

counted_in : (a n i : ℕ) → Memᴰ i (range_with_len a n) → (a ≤ i) × (i < a + n)
counted_in a zero i m = absurd (Memᴰ.not-nil m)
counted_in a (suc n) i m = elim (Memᴰ.cases_cons m)
    [ inl e ↦ (omega arith, omega arith) | inr q ↦ (let r = counted_in (a + 1) n i q in (omega arith, omega arith)) ]

joined_in : (f : ℕ → List ℕ) (bs : List ℕ) (i : ℕ) → Memᴰ i (flat_map f bs) → (b : ℕ) × Memᴰ b bs × Memᴰ i (f b)
joined_in f [] i m = absurd (Memᴰ.not-nil m)
joined_in f (b ∷ bs) i m = elim (Memᴰ.append_cases (f b) m)
    [ inl q ↦ (b, Memᴰ.head refl, q) | inr q ↦ (let r = joined_in f bs i q in (r.0, Memᴰ.tail r.1, r.2)) ]

-- a lookup goes through slots that the key may take
pub order_allowed : (L : Layout) → Sized L → (k : Key) (i : ℕ) → Memᴰ i (look_order L k) → Allowed L k i
order_allowed L sized k i m = elim (Memᴰ.append_cases (flat_map (bucket_list L) (L.choices k)) m) [
  | inl q ↦ (let (b, mb, mi) = joined_in (bucket_list L) (L.choices k) i q in inl ((candidates L sized k i).1 (b, mb, counted_in (b * L.width) L.width i mi)))
  | inr q ↦ inr (counted_in (bucket_slots L) L.stash i q)
]

pub get_front_lem : GetFront
get_front_lem L xs k sized = look_same L xs k (look_order L k) (λ i m. in_slots L k i (order_allowed L sized k i m))
