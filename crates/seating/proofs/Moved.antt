-- The moves that put and drop answer are those that the slots show.
use Rattle.std.proofs.Common.{◌≡◌, ℕ, ◌+◌, ◌<◌, ◌≤◌, ◌≢◌, List, [], ◌∷◌, length, set, sym, refl, ◌∙◌, inl, inr, arith}
use mathlib.Core.List.Memᴰ
use mathlib.Core.List.{Memᴰ}
use Rattle.std.proofs.lemmas.List.{get_or-set_other, length-set}
use Rattle.std.proofs.lemmas.Bool.{cases_eq}
use Rattle.seating.specs.Layouts.{Key, Value, Content, Layout, slots, Stash}
use Rattle.seating.specs.Layouts.Content.{vacant, holding}
use Rattle.seating.specs.Paths.{Path, CuckooPath, Distinct, carry}
use Rattle.seating.specs.Slots.{at, Sits, Held, moved}
use Rattle.seating.specs.Steps.PutAnswer.{seated}
use Rattle.seating.specs.Steps.DropAnswer.{dropped}
use Rattle.seating.specs.Tables.{Lawful}
use Rattle.seating.specs.Theorems.{PutMoves, DropMoves}
use Rattle.seating.proofs.Changes.{Loses, dropped_loses}
use Rattle.seating.proofs.Keeping.{put_sound_lem, drop_sound_lem}
use Rattle.seating.proofs.Loops.{low_path, shortest_distinct}
use Rattle.seating.proofs.Moves.{initial, initial_in, initial_distinct, length_initial, carry_first, path_moves, off_path, moved_count}
use Rattle.seating.proofs.Sitting.{not_both, sits_low, sits_vacated}

-- the length of a path, one more than the slots before its last
inner_length : {May : Key → ℕ → Type 0} {xs : List Content} {k : Key} (is : List ℕ) → Path May xs k is → length (initial is) + 1 ≡ length is
inner_length [] p = elim p [ ]
inner_length (i ∷ is) p = length_initial i is

pathed_moves : (L : Layout) (xs ys : List Content) (k : Key) (v : Value) (is : List ℕ) → Lawful L xs → Lawful L ys
    → CuckooPath L xs k is → Distinct is → ys ≡ carry xs is (holding k v) → moved xs ys + 1 ≡ length is
pathed_moves L xs ys k v is law law' p d e =
    omega (
      arith,
      inner_length is p,
      moved_count L xs ys (initial is) law law' (initial_distinct is d)
          (λ a m. let (o, (j, _, ne, q)) = path_moves L xs (omega (arith, law.whole)) is (holding k v) p d a m in
          (o.0, o.1, (j, ne, (o.1.0, rw e (q ∙ o.1.1)))))
          (λ a n h s. inl (rw e (off_path xs is (holding k v) p a n h s))),
    )

pub put_moves_lem : PutMoves
put_moves_lem L xs k v was m s ys is (room, miss, inl p, n, e) g =
    let law' = (put_sound_lem L xs k v was (seated m s) ys is (room, miss, inl p, n, e) g).law in
    let d = shortest_distinct k p.way p.shortest.path p.shortest.least in
    omega (arith, p.moves, pathed_moves L xs ys k v p.way g.law law' p.shortest.path d p.after)
put_moves_lem L xs k v was m s ys is (room, miss, inr p, n, e) g =
    let law' = (put_sound_lem L xs k v was (seated m s) ys is (room, miss, inr p, n, e) g).law in
    p.moves ∙ sym (moved_count L xs ys [] g.law law' tt (λ i q. absurd (Memᴰ.not-nil q))
    (λ i _ h s. inl (
      s.0,
      rw p.after (get_or-set_other xs p.slot i (holding k v) vacant
          (λ q. not_both _ h s.0 p.free (rw q at s.1)) ∙ s.1),
    )))

module _ (L : Layout) (xs ys : List Content) (k : Key) (i : ℕ) (law : Lawful L xs) (law' : Lawful L ys) (s : Sits xs k i) (lost : Loses xs ys k) where
  low : i < length xs
  low = sits_low L xs law k i s

  gone : (h : Key) → Sits xs h i → Held ys h → ⊥
  gone h t (j, (u, e)) = ((lost h u).0 (j, e)).1 (let q = s.1 in let r = t.1 in cc (q, r))

  vacated : (a : ℕ) → a ≢ i → (h : Key) → Sits xs h a → Sits (set xs i vacant) h a
  vacated a n h t = (t.0, get_or-set_other xs i a vacant vacant n ∙ t.1)

  rested_moves : ys ≡ set xs i vacant → moved xs ys ≡ 0
  rested_moves e = moved_count L xs ys [] law law' tt (λ a q. absurd (Memᴰ.not-nil q))
      (λ a _ h t. elim (cases_eq a i) [ inl q ↦ inr (gone h (rw q at t)) | inr n ↦ inl (rw e (vacated a n h t)) ])

  module _ (t : ℕ) (h : Key) (w : Value) (way : List ℕ) (st : Stash L t) (here : at (set xs i vacant) t ≡ holding h w)
      (p : CuckooPath L (set xs i vacant) h way) (d : Distinct way) (e : ys ≡ set (carry (set xs i vacant) way (holding h w)) t vacant) where
    off_way : Memᴰ t way → ⊥
    off_way m = omega (arith, low_path L p t m, st.0)

    -- what the path left outside the emptied slot of the stash
    left : (a : ℕ) → a ≢ t → at ys a ≡ at (carry (set xs i vacant) way (holding h w)) a
    left a n = rw e (get_or-set_other (carry (set xs i vacant) way (holding h w)) t a vacant vacant n)

    first : (is : List ℕ) → CuckooPath L (set xs i vacant) h is → (j : ℕ) × Memᴰ j is × (at (carry (set xs i vacant) is (holding h w)) j ≡ holding h w)
    first [] q = elim q [ ]
    first (j ∷ is) q = (
      j,
      Memᴰ.head refl,
      carry_first (set xs i vacant) j is (holding h w) (rw length-set (omega (arith, law.whole, low_path L q j (Memᴰ.head refl)))),
    )

    refilled_moves : moved xs ys ≡ length way
    refilled_moves =
        let l : slots L ≤ length (set xs i vacant) = rw length-set (omega (arith, law.whole)) in
        moved_count L xs ys (t ∷ initial way) law law' ((λ m. off_way (initial_in way t m)), initial_distinct way d)
        (λ a m. elim (Memᴰ.cases_cons m) [
          | inl q ↦ (let (j, mj, f) = first way p in (
            h,
            rw q (sits_vacated xs i low h t (w, here)).1,
            (
              j,
              (λ z. off_way (rw (z ∙ q) at mj)),
              (w, left j (λ z. off_way (rw z at mj)) ∙ f),
            ),
          ))
          | inr q ↦ (let (o, (j, mj, ne, f)) = path_moves L (set xs i vacant) l way (holding h w) p d a q in
              (o.0, (sits_vacated xs i low o.0 a o.1).1, (j, ne, (o.1.0, left j (λ z. off_way (rw z at mj)) ∙ f ∙ o.1.1))))
        ])
        (λ a n g u. elim (cases_eq a i) [
          | inl q ↦ inr (gone g (rw q at u))
          | inr ne ↦ (let r = off_path (set xs i vacant) way (holding h w) p a (λ m. n (Memᴰ.tail m)) g (vacated a ne g u) in
              inl (r.0, left a (λ z. n (Memᴰ.head z)) ∙ r.1))
        ])
        ∙ inner_length'
      where
        inner_length' : length (t ∷ initial way) ≡ length way
        inner_length' = omega (arith, inner_length way p)

pub drop_moves_lem : DropMoves
drop_moves_lem L xs k was m s ys is (room, (i, f, inl p), n, b) g =
    let law' = (drop_sound_lem L xs k was (dropped m s) ys is (room, (i, f, inl p), n, b) g).law in
    p.moves ∙ sym (rested_moves L xs ys k i g.law law' f.1 (dropped_loses L xs ys k i m g.law f.1 (inl p)) p.after)
drop_moves_lem L xs k was m s ys is (room, (i, f, inr p), n, b) g =
    let law' = (drop_sound_lem L xs k was (dropped m s) ys is (room, (i, f, inr p), n, b) g).law in
    let z = p.nearest in
    let d = shortest_distinct p.key p.way z.path (λ js. z.least p.key p.slot js z.stash (p.value, z.here)) in
    p.moves ∙ sym (refilled_moves L xs ys k i g.law law' f.1 (dropped_loses L xs ys k i m g.law f.1 (inr p))
    p.slot p.key p.value p.way z.stash z.here z.path d p.after)
