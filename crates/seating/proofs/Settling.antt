-- Where no key of the stash has a path there is a barrier, so the stash is least, and a stuck key is blocked.
use Rattle.std.proofs.Common.{◌≡◌, ℕ, zero, suc, ◌<◌, Bool, true, false, ◌||◌, eqb, List, [], ◌∷◌, inl, inr, arith}
use Rattle.std.proofs.lemmas.Bool.{cases_eq, cases_lt, or_cases, or_left, or_right, false≢true, eqb-true, eq-eqb}
use Rattle.seating.specs.Assignments.{stashed_by}
use Rattle.seating.specs.Layouts.{Key, Content, Layout, bucket_slots, Stash, Candidate, Allowed}
use Rattle.seating.specs.Layouts.Content.{vacant}
use Rattle.seating.specs.Paths.{Path, Pathless}
use Rattle.seating.specs.Paths.Path.{last, next}
use Rattle.seating.specs.Slots.{at, Sits, Occupied, keys, stashed}
use Rattle.seating.specs.Tables.{Settled, Sound}
use Rattle.seating.specs.Theorems.{StashLeast, StuckBlocked}
use Rattle.seating.proofs.Barriers.{Barrier, stuck}
use Rattle.seating.proofs.Blockings.{Reach, blocking_reached}
use Rattle.seating.proofs.Blockings.Reach.{start, onward}
use Rattle.seating.proofs.Least.{barrier_least}
use Rattle.seating.proofs.Sitting.{not_both, occupied}

-- where the goal is absurd, a property of the numbers below n is as good as a test
tested : (n : ℕ) (P : ℕ → Type 0)
    → ((Q : ℕ → Bool) → ((i : ℕ) → Q i ≡ true → (i < n) × P i) → ((i : ℕ) → i < n → P i → Q i ≡ true) → ⊥) → ⊥
tested zero P go = go (λ _. false) (λ i e. absurd (false≢true e)) (λ i l. absurd (omega arith))
tested (suc n) P go = tested n P (λ Q sound whole.
    let out : P n → ⊥ = λ p. go (λ i. eqb i n || Q i)
    (λ i e. elim (or_cases (eqb i n) (Q i) e) [
      | inl q ↦ (let same : i ≡ n = eqb-true i n q in (omega arith, rw same p))
      | inr q ↦ (let s = sound i q in (omega arith, s.1))
    ])
    (λ i l p'. elim (cases_eq i n)
    [ inl q ↦ or_left _ _ (eq-eqb i n q) | inr m ↦ or_right _ _ (whole i (omega arith) p') ]) in
    go Q (λ i e. (let s = sound i e in (omega arith, s.1)))
    (λ i l p. elim (cases_eq i n) [ inl q ↦ absurd (out (rw q at p)) | inr m ↦ whole i (omega arith) p ]))

-- a slot that a key with no path may go to is not vacant, and no key sitting there has a path
pub onto : (L : Layout) (xs : List Content) (h : Key) (j : ℕ) → Pathless L xs h → Candidate L h j
    → (at xs j ≡ vacant → ⊥) × ((g : Key) → Sits xs g j → Pathless L xs g)
onto L xs h j n c = (λ e. n (j ∷ []) (last c e), λ g s is ch. n (j ∷ is) (next c s ch))

-- the bucket slots that keys of the stash can come to
data Pushed (L : Layout) (xs : List Content) : ℕ → Type 0 where
  out : {h : Key} {j : ℕ} (t : ℕ) → Stash L t → Sits xs h t → Candidate L h j → Pushed L xs j
  on : {h : Key} {i j : ℕ} → Pushed L xs i → Sits xs h i → Candidate L h j → Pushed L xs j

pushed : (L : Layout) (xs : List Content) → Settled L xs → (j : ℕ) → Pushed L xs j
    → (at xs j ≡ vacant → ⊥) × ((g : Key) → Sits xs g j → Pathless L xs g)
pushed L xs rest j (out {h = h} t st s c) = onto L xs h j (rest h t st s) c
pushed L xs rest j (on {h = h} {i = i} p s c) = onto L xs h j ((pushed L xs rest i p).1 h s) c

-- no path from the stash: there is a barrier
pub barred : (L : Layout) (xs : List Content) → Settled L xs → ((X : ℕ → Bool) → Barrier L xs X → ⊥) → ⊥
barred L xs rest go = tested (bucket_slots L) (Pushed L xs) (λ X sound whole. go X (record {
  low = λ i x. (sound i x).0;
  full = λ i x. occupied xs i (pushed L xs rest i (sound i x).1).0;
  shut = λ h i j w s c. whole j c.0 (elim w [ inl x ↦ on (sound i x).1 s c | inr st ↦ out i st s c ]);
}))

pub barrier_settled : (L : Layout) (xs : List Content) (X : ℕ → Bool) → Barrier L xs X → Settled L xs
barrier_settled L xs X bar h t st s is ch = stuck L xs X bar (λ j. bar.shut h t j (inr st) s) ch

-- a path in slots that look the same wherever a key may go
pub path_same : {May : Key → ℕ → Type 0} {xs ys : List Content} {k : Key} {is : List ℕ}
    → ((k : Key) (j : ℕ) → May k j → (at ys j ≡ vacant → at xs j ≡ vacant) × ((h : Key) → Sits ys h j → Sits xs h j))
    → Path May ys k is → Path May xs k is
path_same like (last m e) = last m ((like _ _ m).0 e)
path_same like (next {h = h} m s r) = next m ((like _ _ m).1 h s) (path_same like r)

pub stash_least_lem : StashLeast
stash_least_lem L xs g f seats = elim (cases_lt (stashed_by L f (keys xs)) (stashed L xs)) [
  | inl more ↦ absurd (barred L xs g.rest (λ X bar.
      (let le = barrier_least L xs X g.law bar f seats in omega arith)))
  | inr le ↦ le
]

-- nothing that a stuck key can reach is vacant
module _ (L : Layout) (xs : List Content) (k : Key) (g : Sound L xs) (none : Pathless L xs k) (st : (t : ℕ) → Stash L t → Occupied xs t) where
  into : (h : Key) (j : ℕ) → Pathless L xs h → Allowed L h j → (at xs j ≡ vacant → ⊥) × ((f : Key) → Sits xs f j → Pathless L xs f)
  into h j n (inl c) = onto L xs h j n c
  into h j n (inr s) = (λ e. (let o = st j s in not_both _ o.0 o.1.0 e o.1.1), λ f p. g.rest f j s p)

  reached : (j : ℕ) → Reach L xs k j → (at xs j ≡ vacant → ⊥) × ((f : Key) → Sits xs f j → Pathless L xs f)
  reached j (start m) = into k j none m
  reached j (onward {h = h} {i = i} r s m) = into h j ((reached i r).1 h s) m

pub stuck_blocked_lem : StuckBlocked
stuck_blocked_lem L xs k g none st i m = occupied xs i (reached L xs k g none st i ((blocking_reached L xs k i).0 m)).0
