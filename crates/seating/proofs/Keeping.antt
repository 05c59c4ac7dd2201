-- Every call keeps the invariant.
use Rattle.std.proofs.Common.{◌≡◌, ℕ, ◌<◌, List, [], ◌∷◌, length, set, sym, ◌∙◌, inl, inr, arith}
use mathlib.Core.List.Memᴰ
use mathlib.Core.List.{Memᴰ}
use Rattle.std.proofs.lemmas.List.{get_or-set_same, get_or-set_other, length-set}
use Rattle.std.proofs.lemmas.Bool.{cases_eq, cases_Bool}
use Rattle.seating.specs.Layouts.{Key, Value, Content, Layout, bucket_slots, Stash}
use Rattle.seating.specs.Layouts.Content.{vacant, holding}
use Rattle.seating.specs.Paths.{CuckooPath, Pathless, Distinct, carry}
use Rattle.seating.specs.Paths.Path.{last}
use Rattle.seating.specs.Slots.{at, Sits, Held}
use Rattle.seating.specs.Steps.{Missing}
use Rattle.seating.specs.Steps.PutAnswer.{seated, renewed, too_short, full}
use Rattle.seating.specs.Steps.DropAnswer.{dropped, too_short as lent_short, not_held}
use Rattle.seating.specs.Tables.{Lawful, Settled, Sound}
use Rattle.seating.specs.Theorems.{Gains, PutSound, DropSound}
use Rattle.seating.proofs.Barriers.{barrier_stays, barrier_refilled, barrier_spared}
use Rattle.seating.proofs.Carrying.{carried_out_lem, path_wider, path_set, carry_set}
use Rattle.seating.proofs.Loops.{low_path, shortest_distinct}
use Rattle.seating.proofs.Settling.{barred, barrier_settled, path_same}
use Rattle.seating.proofs.Sitting.{not_both, sits_set, sits_vacated, sits_low, vacated_lawful}

-- a key that is not where it may sit is not held
pub missing_not_held : (L : Layout) (xs : List Content) (k : Key) → Lawful L xs → Missing L xs k → Held xs k → ⊥
missing_not_held L xs k law miss (i, s) = miss i (law.placed k i s, s)

-- a new value for a key where it sits
module _ (L : Layout) (xs : List Content) (k : Key) (v : Value) (i : ℕ) (s : Sits xs k i) (l : i < length xs) where
  renewed_sits : (h : Key) (j : ℕ) → Sits (set xs i (holding k v)) h j → Sits xs h j
  renewed_sits h j t = elim (sits_set xs i k v l h j t) [ inl q ↦ rw (q.0, q.1) s | inr q ↦ q.1 ]

  renewed_vacant : (j : ℕ) → at (set xs i (holding k v)) j ≡ vacant → at xs j ≡ vacant
  renewed_vacant j e = elim (cases_eq j i) [
    | inl q ↦ absurd (not_both _ k v (rw q at e) (get_or-set_same xs i (holding k v) vacant l))
    | inr n ↦ sym (get_or-set_other xs i j (holding k v) vacant n) ∙ e
  ]

  renewed_sound : Sound L xs → Sound L (set xs i (holding k v))
  renewed_sound g = record {
    law = record {
      whole = rw length-set g.law.whole;
      once = λ h a b p q. g.law.once h a b (renewed_sits h a p) (renewed_sits h b q);
      placed = λ h a p. g.law.placed h a (renewed_sits h a p);
    };
    rest = λ h t st p is ch. g.rest h t st (renewed_sits h t p) is
        (path_same (λ _ j _. (renewed_vacant j, λ h. renewed_sits h j)) ch);
  }

-- a shortest path carried out
pub pathed : (L : Layout) (xs : List Content) (k : Key) (v : Value) (is : List ℕ) → Lawful L xs → (Held xs k → ⊥)
    → CuckooPath L xs k is → Distinct is → Lawful L (carry xs is (holding k v)) × Gains xs (carry xs is (holding k v)) k v
pathed L xs k v is law new ch d =
    let r = carried_out_lem L xs k v is law new (path_wider (λ _ _. inl) ch) d in (r.0, r.1)

pub stashed : (L : Layout) (xs : List Content) (k : Key) (v : Value) (t : ℕ) → Lawful L xs → (Held xs k → ⊥)
    → Stash L t → at xs t ≡ vacant → Lawful L (set xs t (holding k v)) × Gains xs (set xs t (holding k v)) k v
stashed L xs k v t law new st e =
    let r = carried_out_lem L xs k v (t ∷ []) law new (last (inr st) e) (Memᴰ.not-nil, tt) in (r.0, r.1)

stashed_rest : (L : Layout) (xs : List Content) (k : Key) (v : Value) (t : ℕ) → Sound L xs → Pathless L xs k → Stash L t
    → Settled L (set xs t (holding k v))
stashed_rest L xs k v t g none st h a sa s is ch =
    let was : CuckooPath L xs h is = path_same (λ _ j c. (λ e. same j c.0 ∙ e, λ h p. (p.0, same j c.0 ∙ p.1))) ch in
    elim (sits_set xs t k v (omega (arith, g.law.whole, st)) h a s)
    [ inl q ↦ none is (rw q.1 at was) | inr q ↦ g.rest h a sa q.1 is was ]
  where
    same : (j : ℕ) → j < bucket_slots L → at xs j ≡ at (set xs t (holding k v)) j
    same j c = sym (get_or-set_other xs t j (holding k v) vacant (omega (arith, st)))

-- a key of the stash carried into the buckets, after a drop
module _ (L : Layout) (xs : List Content) (i t : ℕ) (h : Key) (w : Value) (is : List ℕ) (law : Lawful L xs) (l : i < length xs)
    (st : Stash L t) (here : at (set xs i vacant) t ≡ holding h w) (ch : CuckooPath L (set xs i vacant) h is) (d : Distinct is) where
  off : Memᴰ t is → ⊥
  off q = omega (arith, low_path L ch t q, st)

  tl : t < length (set xs i vacant)
  tl = rw length-set (omega (arith, law.whole, st))

  law' : Lawful L (set xs i vacant)
  law' = vacated_lawful L xs i l law

  gone : Held (set (set xs i vacant) t vacant) h → ⊥
  gone (j, s) = let p = sits_vacated (set xs i vacant) t tl h j s in p.0 (law'.once h j t p.1 (w, here))

  ch' : CuckooPath L (set (set xs i vacant) t vacant) h is
  ch' = path_set t vacant off ch

  pub turn : carry (set (set xs i vacant) t vacant) is (holding h w) ≡ set (carry (set xs i vacant) is (holding h w)) t vacant
  turn = carry_set (set xs i vacant) t vacant is (holding h w) off

  pub refilled : Lawful L (carry (set (set xs i vacant) t vacant) is (holding h w))
      × Gains (set (set xs i vacant) t vacant) (carry (set (set xs i vacant) t vacant) is (holding h w)) h w
  refilled = pathed L (set (set xs i vacant) t vacant) h w is (vacated_lawful L (set xs i vacant) t tl law') gone ch' d

  refilled_rest : Settled L xs → Settled L (carry (set (set xs i vacant) t vacant) is (holding h w))
  refilled_rest rest g a sa s js cj = barred L xs rest (λ X bar. elim (cases_Bool (X i)) [
    | inl x ↦ barrier_settled L _ X (barrier_refilled L xs X h w is i t law bar x st was ch' d) g a sa s js cj
    | inr n ↦ barrier_settled L _ X (barrier_spared L xs X i l n bar) h t st (w, here) is ch
  ])
    where
      was : at xs t ≡ holding h w
      was = sym (get_or-set_other xs i t vacant vacant (sits_vacated xs i l h t (w, here)).0) ∙ here

pub put_sound_lem : PutSound
put_sound_lem L xs k v was (seated m s) ys is (room, miss, inl p, n, e) g =
    let new = missing_not_held L xs k g.law miss in
    let d = shortest_distinct k p.way p.shortest.path p.shortest.least in
    rw p.after (record {
      law = (pathed L xs k v p.way g.law new p.shortest.path d).0;
      rest = λ h t st s js ch. barred L xs g.rest (λ X bar.
          barrier_settled L _ X (barrier_stays L xs X k v p.way bar p.shortest.path) h t st s js ch);
    })
put_sound_lem L xs k v was (seated m s) ys is (room, miss, inr p, n, e) g =
    let new = missing_not_held L xs k g.law miss in
    rw p.after (record {
      law = (stashed L xs k v p.slot g.law new p.stash p.free).0;
      rest = stashed_rest L xs k v p.slot g p.none p.stash;
    })
put_sound_lem L xs k v was renewed ys is (room, (i, f, e), b) g = rw e (renewed_sound L xs k v i f.1 (sits_low L xs g.law k i f.1) g)
put_sound_lem L xs k v was too_short ys is (n, e, b) g = rw e g
put_sound_lem L xs k v was (full c) ys is (room, miss, st, e, n, b) g = rw e g

pub drop_sound_lem : DropSound
drop_sound_lem L xs k was (dropped m s) ys is (room, (i, f, inl p), n, b) g =
    rw p.after (record { law = vacated_lawful L xs i (sits_low L xs g.law k i f.1) g.law; rest = p.settled })
drop_sound_lem L xs k was (dropped m s) ys is (room, (i, f, inr p), n, b) g =
    let z = p.nearest in
    let low = sits_low L xs g.law k i f.1 in
    let d = shortest_distinct p.key p.way z.path (λ js. z.least p.key p.slot js z.stash (p.value, z.here)) in
    let r : Sound L (carry (set (set xs i vacant) p.slot vacant) p.way (holding p.key p.value)) = record {
      law = (refilled L xs i p.slot p.key p.value p.way g.law low z.stash z.here z.path d).0;
      rest = refilled_rest L xs i p.slot p.key p.value p.way g.law low z.stash z.here z.path d g.rest;
    } in
    rw p.after (rw (turn L xs i p.slot p.key p.value p.way g.law low z.stash z.here z.path d) at r)
drop_sound_lem L xs k was lent_short ys is (n, e, b) g = rw e g
drop_sound_lem L xs k was not_held ys is (room, miss, e, b) g = rw e g
