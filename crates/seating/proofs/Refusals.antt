-- Why a refusal is right: a full blocking set leaves no seating, and only the keys in it can help.
use Rattle.std.proofs.Common.{◌≡◌, ℕ, ◌<◌, ◌≤◌, Bool, true, false, eqb, ◌≢◌, ◌⊎◌, List, [], ◌∷◌, length, set, sym, refl, ap, ◌∙◌, inl, inr, arith}
use mathlib.Core.List.Memᴰ
use mathlib.Core.List.{Memᴰ}
use Rattle.std.proofs.lemmas.List.{get_or-set_same, get_or-set_other}
use Rattle.std.proofs.lemmas.Bool.{cases_eq, cases_Bool, both_ways, and_from, not_from_false, ne_eqb, lt-ltb}
use Rattle.seating.specs.Assignments.{Seats, Seatable}
use Rattle.seating.specs.Blocking.{some_of, blocking}
use Rattle.seating.specs.Layouts.{Key, Content, Layout, slots, Stash, Candidate, Allowed}
use Rattle.seating.specs.Layouts.Content.{vacant, holding}
use Rattle.seating.specs.Paths.{carry}
use Rattle.seating.specs.Paths.Path.{last, next}
use Rattle.seating.specs.Slots.{at, Sits, Held, slot_of, Occupied}
use Rattle.seating.specs.Tables.{Lawful}
use Rattle.seating.specs.Theorems.{Blocked, Beside, RefusalHonest, BlameExact, Gains}
use Rattle.seating.proofs.Blockings.{Reach, reach_low, blocking_reached, blocking_least_lem}
use Rattle.seating.proofs.Blockings.Reach.{start, onward}
use Rattle.seating.proofs.Carrying.{carried_out_lem}
use Rattle.seating.proofs.Counts.{bit, count, without, count_without, pigeon}
use Rattle.seating.proofs.Listing.{among_in, in_among}
use Rattle.seating.proofs.Loops.{mem?, Route, shorter}
use Rattle.seating.proofs.Sitting.{sits_vacated, sits_low, vacated_lawful}
use Rattle.seating.proofs.Values.{table_seats, fewer}

-- a set of full slots with all of the stash, which no key in it can leave
record Walled (L : Layout) (xs : List Content) (C : ℕ → Bool) : Type 0 where
  stashed : (i : ℕ) → Stash L i → C i ≡ true
  full : (i : ℕ) → C i ≡ true → (i < slots L) × Occupied xs i
  shut : (k : Key) (i j : ℕ) → C i ≡ true → Sits xs k i → Candidate L k j → C j ≡ true

-- no assignment has the keys of such a set and one more key with all its candidates there, whatever else it has
crowded : (L : Layout) (xs : List Content) (C : ℕ → Bool) (k : Key) (K : Key → Type 0)
    → Lawful L xs → Walled L xs C → ((i : ℕ) → Candidate L k i → C i ≡ true) → (Held xs k → ⊥)
    → K k → ((j : Key) (i : ℕ) → C i ≡ true → Sits xs j i → K j)
    → (f : Key → ℕ) → Seats L K f → ⊥
crowded L xs C k K law wall near new here all f seats =
    omega (arith, count_without C (f k) (slots L), ap bit (and_from _ _ (lt-ltb _ _ (wall.full (f k) own).0) own), less)
  where
    inside : (j : Key) → ((i : ℕ) → Candidate L j i → C i ≡ true) → Allowed L j (f j) → C (f j) ≡ true
    inside j c (inl a) = c (f j) a
    inside j c (inr s) = wall.stashed (f j) s

    own : C (f k) ≡ true
    own = inside k near (seats.allowed k here)

    less : count C (slots L) ≤ count (without C (f k)) (slots L)
    less = pigeon (slots L) (slots L) C (without C (f k)) (λ i j. (h : Key) × Sits xs h i × K h × (f h ≡ j))
        (λ i l c. let s = (wall.full i c).1 in let h = s.0 in
        let in' : C (f h) ≡ true = inside h (λ j. wall.shut h i j c s.1) (seats.allowed h (all h i c s.1)) in (
          f h,
          (wall.full (f h) in').0,
          and_from _ _ in' (not_from_false _ (ne_eqb _ _ (λ e. new (i, rw (seats.apart h k (all h i c s.1) here e) at s.1)))),
          (h, s.1, all h i c s.1, refl),
        ))
        (λ i i' j l l' r r'. law.once r'.0 i i' (rw (seats.apart r.0 r'.0 r.2 r'.2 (r.3 ∙ sym r'.3)) at r.1) r'.1)

module _ (L : Layout) (xs : List Content) (k : Key) (full : Blocked L xs k) where
  abbrev blocked : ℕ → Bool
  blocked i = some_of (eqb i) (blocking L xs k)

  walled : Walled L xs blocked
  walled = let b = (blocking_least_lem L xs k).blocks in record {
    stashed = λ i s. in_among _ i (b.stash i s);
    full = λ i e. (reach_low L xs k i ((blocking_reached L xs k i).0 (among_in _ i e)), full i (among_in _ i e));
    shut = λ h i j e s c. in_among _ j (b.onward h i j (among_in _ i e) s c);
  }

  near : (i : ℕ) → Candidate L k i → blocked i ≡ true
  near i c = in_among _ i ((blocking_least_lem L xs k).blocks.near i c)

pub refusal_honest_lem : RefusalHonest
refusal_honest_lem L xs k law new full f seats =
    crowded L xs (blocked L xs k full) k (Beside xs k) law (walled L xs k full) (near L xs k full) new (inl refl)
    (λ j i c s. inr (i, s)) f seats

-- a slot that the key reaches can be emptied for it: walking back gives a path
module _ (L : Layout) (xs : List Content) (i : ℕ) (in' : i < length xs) where
  abbrev Onward : ℕ → Type 0
  Onward a = (a ≡ i) ⊎ ((h : Key) × Sits (set xs i vacant) h a × Route (Allowed L) (set xs i vacant) h)

  hop : (k : Key) (a : ℕ) → Allowed L k a → Onward a → Route (Allowed L) (set xs i vacant) k
  hop k a m (inl e) = (i ∷ [], last (rw e at m) (get_or-set_same xs i vacant vacant in'), (Memᴰ.not-nil, tt))
  hop k a m (inr (h, s, (is, ch, d))) = elim (mem? a is)
      [ inl q ↦ shorter k a ch d q m | inr n ↦ (a ∷ is, next m s ch, (n, d)) ]

  back : (k : Key) (a : ℕ) → Reach L xs k a → Onward a → Route (Allowed L) (set xs i vacant) k
  back k a (start m) o = hop k a m o
  back k a (onward {h = h} {i = b} r s m) o = elim (cases_eq b i) [
    | inl e ↦ back k b r (inl e)
    | inr n ↦ back k b r (inr (h, (s.0, get_or-set_other xs i b vacant vacant n ∙ s.1), hop h a m o))
  ]

module _ (L : Layout) (xs : List Content) (k j : Key) (law : Lawful L xs) (new : Held xs k → ⊥) where
  abbrev Rest : Key → Type 0
  Rest h = Beside xs k h × (h ≢ j)

  -- the key in slot i is left out, and the others move up along the path to it
  helps : (i : ℕ) → Reach L xs k i → Sits xs j i → Seatable L Rest
  helps i r s = (slot_of zs, fewer L (Held zs) Rest (slot_of zs) kept (table_seats L zs done.0))
    where
      in' : i < length xs
      in' = sits_low L xs law j i s

      ys : List Content
      ys = set xs i vacant

      way : Route (Allowed L) ys k
      way = back L xs i in' k i r (inl refl)

      zs : List Content
      zs = carry ys way.0 (holding k 0)

      done : Lawful L zs × Gains ys zs k 0 × ((a : ℕ) → (Memᴰ a way.0 → ⊥) → at zs a ≡ at ys a)
      done = carried_out_lem L ys k 0 way.0 (vacated_lawful L xs i in' law) (λ h. new (h.0, (sits_vacated xs i in' k h.0 h.1).1)) way.1 way.2

      kept : (h : Key) → Rest h → Held zs h
      kept h (inl e, n) = let r = (done.1 k 0).1 (inr refl) in (r.0, (0, rw e r.1))
      kept h (inr (a, (u, p)), n) =
          let ne : a ≢ i = λ e. n (let q : at xs i ≡ holding h u = rw e at p in cc (q, s.1)) in
          let r = (done.1 h u).1 (inl (a, get_or-set_other xs i a vacant vacant ne ∙ p)) in (r.0, (u, r.1))

  helps_new : j ≡ k → Seatable L Rest
  helps_new e = (slot_of xs, fewer L (Held xs) Rest (slot_of xs) all (table_seats L xs law))
    where
      all : (h : Key) → Rest h → Held xs h
      all h (inl q, n) = absurd (n (q ∙ sym e))
      all h (inr p, n) = p

  -- a key outside the blocking set leaves all of it as it was
  idle : (full : Blocked L xs k) (i : ℕ) → Sits xs j i → blocked L xs k full i ≡ false → Seatable L Rest → ⊥
  idle full i s x (f, seats) =
      crowded L xs (blocked L xs k full) k Rest law (walled L xs k full) (near L xs k full) new
      (inl refl, λ e. new (i, rw e s))
      (λ h a y t. (inr (a, t), λ e. both_ways (blocked L xs k full i) x (rw (law.once j a i (rw e at t) s) at y))) f seats

pub blame_exact_lem : BlameExact
blame_exact_lem L xs k j law new full beside = (
  λ f. only beside f,
  λ n. elim n [
    | inl e ↦ helps_new L xs k j law new e
    | inr (i, m, s) ↦ helps L xs k j law new i ((blocking_reached L xs k i).0 m) s
  ],
)
  where
    only : Beside xs k j → Seatable L (λ h. Beside xs k h × (h ≢ j)) → (j ≡ k) ⊎ ((i : ℕ) × Memᴰ i (blocking L xs k) × Sits xs j i)
    only (inl e) f = inl e
    only (inr (i, s)) f = elim (cases_Bool (blocked L xs k full i))
        [ inl x ↦ inr (i, among_in _ i x, s) | inr x ↦ absurd (idle L xs k j law new full i s x f) ]
