-- What is held after a put or a drop that was done.
use Rattle.std.proofs.Common.{◌≡◌, ℕ, ◌<◌, ◌≢◌, ◌⊎◌, ◌↔◌, List, length, set, sym, refl, ◌∙◌, inl, inr, arith}
use Rattle.std.proofs.lemmas.List.{get_or-set_same, get_or-set_other, length-set}
use Rattle.std.proofs.lemmas.Bool.{cases_eq}
use Rattle.seating.specs.Layouts.{Key, Value, Content, Layout}
use Rattle.seating.specs.Layouts.Content.{vacant, holding}
use Rattle.seating.specs.Paths.{carry}
use Rattle.seating.specs.Slots.{at, Sits, Held, Stored}
use Rattle.seating.specs.Steps.{Pathed, Stowed, Rested, Refilled, Missing}
use Rattle.seating.specs.Tables.{Lawful}
use Rattle.seating.specs.Theorems.{Gains}
use Rattle.seating.proofs.Keeping.{missing_not_held, pathed, stashed, refilled, turn}
use Rattle.seating.proofs.Loops.{shortest_distinct}
use Rattle.seating.proofs.Sitting.{not_both, put_stored, stored_put, sits_vacated, sits_low}

-- ys holds what xs holds of other keys, and k with v
abbrev pub Becomes : List Content → List Content → Key → Value → Type 0
Becomes xs ys k v = (j : Key) (u : Value) → Stored ys j u ↔ ((Stored xs j u × (k ≢ j)) ⊎ (holding k v ≡ holding j u))

-- ys holds what xs holds of other keys
abbrev pub Loses : List Content → List Content → Key → Type 0
Loses xs ys k = (j : Key) (u : Value) → Stored ys j u ↔ (Stored xs j u × (k ≢ j))

gains_becomes : (xs ys : List Content) (k : Key) (v : Value) → (Held xs k → ⊥) → Gains xs ys k v → Becomes xs ys k v
gains_becomes xs ys k v new gains j u = (
  (λ s. elim ((gains j u).0 s) [ inl p ↦ inl (p, λ e. new (p.0, (u, rw e p.1))) | inr e ↦ inr e ]),
  (λ w. (gains j u).1 (elim w [ inl p ↦ inl p.0 | inr e ↦ inr e ])),
)

pub seated_becomes : (L : Layout) (xs ys : List Content) (k : Key) (v : Value) (m : ℕ) → Lawful L xs → Missing L xs k
    → Pathed L xs k v m ys ⊎ Stowed L xs k v m ys → Lawful L ys × Becomes xs ys k v
seated_becomes L xs ys k v m law miss (inl p) =
    let new = missing_not_held L xs k law miss in
    let r = pathed L xs k v p.way law new p.shortest.path (shortest_distinct k p.way p.shortest.path p.shortest.least) in
    rw p.after (r.0, gains_becomes xs _ k v new r.1)
seated_becomes L xs ys k v m law miss (inr p) =
    let new = missing_not_held L xs k law miss in
    let r = stashed L xs k v p.slot law new p.stash p.free in
    rw p.after (r.0, gains_becomes xs _ k v new r.1)

module _ (L : Layout) (xs : List Content) (law : Lawful L xs) (k : Key) (i : ℕ) (s : Sits xs k i) where
  -- another slot than i holds another key than k
  elsewhere : (j : Key) (u : Value) (a : ℕ) → at xs a ≡ holding j u → a ≢ i → k ≢ j
  elsewhere j u a e n q = n (law.once k a i (u, rw q e) s)

  -- another key than k sits elsewhere
  apart : (j : Key) (u : Value) (a : ℕ) → at xs a ≡ holding j u → k ≢ j → a ≢ i
  apart j u a e n q = n (let o : at xs i ≡ holding j u = rw q at e in cc (o, s.1))

  pub renewed_becomes : (v : Value) → Becomes xs (set xs i (holding k v)) k v
  renewed_becomes v j u = (forth, back)
    where
      low : i < length xs
      low = sits_low L xs law k i s

      forth : Stored (set xs i (holding k v)) j u → (Stored xs j u × (k ≢ j)) ⊎ (holding k v ≡ holding j u)
      forth (a, e) = elim (cases_eq a i) [
        | inl q ↦ inr (sym (get_or-set_same xs i (holding k v) vacant low) ∙ (rw q at e))
        | inr n ↦ (let o : at xs a ≡ holding j u = sym (get_or-set_other xs i a (holding k v) vacant n) ∙ e in
            inl ((a, o), elsewhere j u a o n))
      ]

      back : (Stored xs j u × (k ≢ j)) ⊎ (holding k v ≡ holding j u) → Stored (set xs i (holding k v)) j u
      back (inr e) = (i, get_or-set_same xs i (holding k v) vacant low ∙ e)
      back (inl ((a, e), ne)) = (a, get_or-set_other xs i a (holding k v) vacant (apart j u a e ne) ∙ e)

  pub vacated_loses : Loses xs (set xs i vacant) k
  vacated_loses j u = (
    (λ (a, e). let n : a ≢ i = (sits_vacated xs i (sits_low L xs law k i s) j a (u, e)).0 in
        let o : at xs a ≡ holding j u = sym (get_or-set_other xs i a vacant vacant n) ∙ e in
        ((a, o), elsewhere j u a o n)),
    (λ ((a, e), ne). (a, get_or-set_other xs i a vacant vacant (apart j u a e ne) ∙ e)),
  )

-- a key moved out of slot t and in again: the same is held
moved_same : (ys zs : List Content) (t : ℕ) (h : Key) (w : Value) → t < length ys → at ys t ≡ holding h w → Gains (set ys t vacant) zs h w
    → (j : Key) (u : Value) → Stored zs j u ↔ Stored ys j u
moved_same ys zs t h w l e gains j u = (
  (λ s. only (put_stored ys t vacant l j u (rw e ((gains j u).0 s)))),
  (λ s. (gains j u).1 (rw e at (stored_put ys t vacant l j u (inl s)))),
)
  where
    only : Stored ys j u ⊎ (vacant ≡ holding j u) → Stored ys j u
    only (inl s) = s
    only (inr q) = absurd (not_both vacant j u refl q)

pub dropped_loses : (L : Layout) (xs ys : List Content) (k : Key) (i m : ℕ) → Lawful L xs → Sits xs k i
    → Rested L (set xs i vacant) m ys ⊎ Refilled L (set xs i vacant) m ys → Loses xs ys k
dropped_loses L xs ys k i m law s (inl p) = rw p.after (vacated_loses L xs law k i s)
dropped_loses L xs ys k i m law s (inr p) =
    let z = p.nearest in
    let low = sits_low L xs law k i s in
    let d = shortest_distinct p.key p.way z.path (λ js. z.least p.key p.slot js z.stash (p.value, z.here)) in
    let r = refilled L xs i p.slot p.key p.value p.way law low z.stash z.here z.path d in
    let tl : p.slot < length (set xs i vacant) = rw length-set (omega (arith, law.whole, z.stash.1)) in
    let same = moved_same (set xs i vacant) _ p.slot p.key p.value tl z.here r.1 in
    let lost = vacated_loses L xs law k i s in
    let told : Loses xs (carry (set (set xs i vacant) p.slot vacant) p.way (holding p.key p.value)) k =
    λ j u. (λ q. (lost j u).0 ((same j u).0 q), λ a. (same j u).1 ((lost j u).1 a)) in
    rw p.after (rw (turn L xs i p.slot p.key p.value p.way law low z.stash z.here z.path d) at told)
