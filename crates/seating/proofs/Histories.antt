-- What the calls' arguments tell of the held keys is what the slots hold.
use Rattle.std.proofs.Common.{◌≡◌, ℕ, zero, suc, ◌≢◌, ◌⊎◌, ◌↔◌, List, length, replicate, refl, inl, inr, arith}
use Rattle.std.proofs.lemmas.List.{length-replicate}
use Rattle.seating.specs.Assignments.{Seatable, Unseatable}
use Rattle.seating.specs.Calls.{Call, Ample, Holdings, Nothing, Has, With, After, Holds}
use Rattle.seating.specs.Calls.Call.{put, drop}
use Rattle.seating.specs.Calls.After.{enters, renews, beside, short}
use Rattle.seating.specs.Layouts.{Key, Value, Content, Layout, slots}
use Rattle.seating.specs.Layouts.Content.{vacant, holding}
use Rattle.seating.specs.Runs.{Ran, fresh}
use Rattle.seating.specs.Runs.Ran.{begun, putting, dropping}
use Rattle.seating.specs.Slots.{at, Sits, Held, Stored, slot_of}
use Rattle.seating.specs.Steps.{Lent, Stuck, Missing, PutAnswer, PutDoes, DropAnswer, DropDoes}
use Rattle.seating.specs.Steps.PutAnswer.{seated, renewed, too_short, full}
use Rattle.seating.specs.Steps.DropAnswer.{dropped, too_short as lent_short, not_held}
use Rattle.seating.specs.Tables.{Lawful, Sound}
use Rattle.seating.specs.Theorems.{Beside}
use Rattle.seating.proofs.Changes.{Becomes, seated_becomes, renewed_becomes, dropped_loses}
use Rattle.seating.proofs.Keeping.{missing_not_held, put_sound_lem, drop_sound_lem}
use Rattle.seating.proofs.Refusals.{refusal_honest_lem}
use Rattle.seating.proofs.Settling.{stuck_blocked_lem}
use Rattle.seating.proofs.Sitting.{not_both}
use Rattle.seating.proofs.Values.{table_seats, fewer}

-- the slots hold what H says
abbrev pub Tracks : List Content → Holdings → Type 0
Tracks xs H = (k : Key) (v : Value) → Stored xs k v ↔ H k v

module _ (xs : List Content) (H : Holdings) (tr : Tracks xs H) where
  pub has : (k : Key) → Held xs k → Has H k
  has k (i, (v, e)) = (v, (tr k v).0 (i, e))

  pub held : (k : Key) → Has H k → Held xs k
  held k (v, p) = let r = (tr k v).1 p in (r.0, (v, r.1))

module _ (L : Layout) (H : Holdings) where
  -- k with v, told of j and u
  told : {k j : Key} {v u : Value} (c : Call) → After L H c k v → holding k v ≡ holding j u → After L H c j u
  told {k} {j} {v} {u} c a e = let p : k ≡ j = cc in let q : v ≡ u = cc in rw (← p, ← q) a

  from_put : {k j : Key} {v u : Value} {work list : ℕ} → Ample L (put k v work list) → After L H (put k v work list) j u
      → (H j u × (k ≢ j)) ⊎ (holding k v ≡ holding j u)
  from_put ample (enters l n b) = inr refl
  from_put ample (renews l h) = inr refl
  from_put ample (beside ne p) = inl (p, ne)
  from_put ample (short m p) = absurd (m ample)

  after_put : {k : Key} {v : Value} {work list : ℕ} → Ample L (put k v work list)
      → Has H k ⊎ ((Has H k → ⊥) × Seatable L (With H k))
      → (j : Key) (u : Value) → ((H j u × (k ≢ j)) ⊎ (holding k v ≡ holding j u)) ↔ After L H (put k v work list) j u
  after_put {k} {v} {work} {list} ample way j u = (into, from_put ample)
    where
      now : Has H k ⊎ ((Has H k → ⊥) × Seatable L (With H k)) → After L H (put k v work list) k v
      now (inl h) = renews ample h
      now (inr (n, f)) = enters ample n f

      into : (H j u × (k ≢ j)) ⊎ (holding k v ≡ holding j u) → After L H (put k v work list) j u
      into (inl (p, ne)) = beside ne p
      into (inr e) = told (put k v work list) (now way) e

  after_drop : {k : Key} {work : ℕ} → Ample L (drop k work)
      → (j : Key) (u : Value) → (H j u × (k ≢ j)) ↔ After L H (drop k work) j u
  after_drop {k} {work} ample j u = ((λ (p, ne). beside ne p), from)
    where
      from : After L H (drop k work) j u → H j u × (k ≢ j)
      from (beside ne p) = (p, ne)
      from (short m p) = absurd (m ample)

  from_short : {c : Call} {j : Key} {u : Value} → (Ample L c → ⊥) → After L H c j u → H j u
  from_short n (enters l a b) = absurd (n l)
  from_short n (renews l p) = absurd (n l)
  from_short n (beside ne p) = p
  from_short n (short m p) = p

  after_short : (c : Call) → (Ample L c → ⊥) → (j : Key) (u : Value) → H j u ↔ After L H c j u
  after_short c n j u = (short n, from_short n)

  -- a key that is not held keeps out of the way
  off : (k j : Key) (u : Value) → (Has H k → ⊥) → H j u → k ≢ j
  off k j u n p e = n (u, rw e p)

  from_full : {k j : Key} {v u : Value} {work list : ℕ} → (Has H k → ⊥) → Unseatable L (With H k)
      → After L H (put k v work list) j u → H j u
  from_full n none (enters l a b) = absurd (none b.0 b.1)
  from_full n none (renews l p) = absurd (n p)
  from_full n none (beside ne p) = p
  from_full n none (short m p) = p

  after_full : {k : Key} {v : Value} {work list : ℕ} → (Has H k → ⊥) → Unseatable L (With H k)
      → (j : Key) (u : Value) → H j u ↔ After L H (put k v work list) j u
  after_full {k} n none j u = ((λ p. beside (off k j u n p) p), from_full n none)

  after_absent : {k : Key} {work : ℕ} → (Has H k → ⊥) → (j : Key) (u : Value) → H j u ↔ After L H (drop k work) j u
  after_absent {k} {work} n j u = ((λ p. beside (off k j u n p) p), from)
    where
      from : After L H (drop k work) j u → H j u
      from (beside ne p) = p
      from (short m p) = p

-- slots that hold k and all held keys lawfully are an assignment of them
pub seats_with : (L : Layout) (xs ys : List Content) (H : Holdings) (k : Key) (v : Value) → Tracks xs H → Lawful L ys
    → (Held xs k → ⊥) → Becomes xs ys k v → Seatable L (With H k)
seats_with L xs ys H k v tr law new becomes = (slot_of ys, fewer L (Held ys) (With H k) (slot_of ys) all (table_seats L ys law))
  where
    all : (j : Key) → With H k j → Held ys j
    all j (inl e) = let r = (becomes k v).1 (inr refl) in (r.0, (v, rw e r.1))
    all j (inr (u, p)) =
        let s = (tr j u).1 p in
        let r = (becomes j u).1 (inl (s, λ e. new (s.0, (u, rw e s.1)))) in (r.0, (u, r.1))

-- a stuck key has no assignment with all held keys
pub stuck_unseatable : (L : Layout) (xs : List Content) (H : Holdings) (k : Key) → Tracks xs H → Sound L xs → Missing L xs k
    → Stuck L xs k → Unseatable L (With H k)
stuck_unseatable L xs H k tr g miss st f seats =
    refusal_honest_lem L xs k g.law (missing_not_held L xs k g.law miss) (stuck_blocked_lem L xs k g st.none st.filled) f
    (fewer L (With H k) (Beside xs k) f (λ j p. elim p [ inl e ↦ inl e | inr q ↦ inr (has xs H tr j q) ]) seats)

chain : {A B C : Type 0} → A ↔ B → B ↔ C → A ↔ C
chain (f, g) (h, i) = ((λ a. h (f a)), (λ c. g (i c)))

becomes_tracks : (xs ys : List Content) (H : Holdings) → Tracks xs H → (k : Key) (v : Value) → Becomes xs ys k v → {G : Holdings}
    → ((j : Key) (u : Value) → ((H j u × (k ≢ j)) ⊎ (holding k v ≡ holding j u)) ↔ G j u) → Tracks ys G
becomes_tracks xs ys H tr k v becomes after j u = chain (chain (becomes j u) (
  (λ w. elim w [ inl p ↦ inl ((tr j u).0 p.0, p.1) | inr q ↦ inr q ]),
  (λ w. elim w [ inl p ↦ inl ((tr j u).1 p.0, p.1) | inr q ↦ inr q ]),
)) (after j u)

put_tracks : (L : Layout) (H : Holdings) (xs : List Content) (k : Key) (v : Value) (was : Lent) (a : PutAnswer) (ys : List Content) (is : Lent)
    → PutDoes L xs k v was a ys is → Sound L xs → Tracks xs H
    → Tracks ys (After L H (put k v (length was.work) (length was.list)))
put_tracks L H xs k v was (seated m s) ys is (room, miss, way, n, e) g tr =
    let new = missing_not_held L xs k g.law miss in
    let r = seated_becomes L xs ys k v m g.law miss way in
    let free : Has H k → ⊥ = λ h. new (held xs H tr k h) in
    becomes_tracks xs ys H tr k v r.1 (after_put L H room (inr (free, seats_with L xs ys H k v tr r.0 new r.1)))
put_tracks L H xs k v was renewed ys is (room, (i, f, e), b) g tr =
    let r = renewed_becomes L xs g.law k i f.1 v in
    rw e (becomes_tracks xs _ H tr k v r (after_put L H room (inl (has xs H tr k (i, f.1)))))
put_tracks L H xs k v was too_short ys is (n, e, b) g tr = rw e (λ j u. chain (tr j u) (after_short L H (put k v (length was.work) (length was.list)) n j u))
put_tracks L H xs k v was (full c) ys is (room, miss, st, e, n, b) g tr =
    rw e (λ j u. chain (tr j u) (after_full L H (λ h. missing_not_held L xs k g.law miss (held xs H tr k h)) (stuck_unseatable L xs H k tr g miss st) j u))

drop_tracks : (L : Layout) (H : Holdings) (xs : List Content) (k : Key) (was : List ℕ) (a : DropAnswer) (ys : List Content) (is : List ℕ)
    → DropDoes L xs k was a ys is → Sound L xs → Tracks xs H → Tracks ys (After L H (drop k (length was)))
drop_tracks L H xs k was (dropped m s) ys is (room, (i, f, way), n, b) g tr =
    let r = dropped_loses L xs ys k i m g.law f.1 way in
    λ j u. chain (chain (r j u) ((λ p. ((tr j u).0 p.0, p.1)), (λ p. ((tr j u).1 p.0, p.1)))) (after_drop L H room j u)
drop_tracks L H xs k was lent_short ys is (n, e, b) g tr = rw e (λ j u. chain (tr j u) (after_short L H (drop k (length was)) (λ l. omega arith) j u))
drop_tracks L H xs k was not_held ys is (room, miss, e, b) g tr =
    rw e (λ j u. chain (tr j u) (after_absent L H (λ h. missing_not_held L xs k g.law miss (held xs H tr k h)) j u))

-- after every run the slots are sound and hold what the calls tell
pub ran_tracks : (L : Layout) (start : List Content) (B : Holdings) → Sound L start → Tracks start B
    → {h : List Call} {xs : List Content} → Ran L start h xs → Sound L xs × Tracks xs (Holds L B h)
ran_tracks L start B g tr begun = (g, tr)
ran_tracks L start B g tr (putting {h = h} {xs = xs} {ys = ys} {k = k} {v = v} was is a r d) =
    let p = ran_tracks L start B g tr r in
    (put_sound_lem L xs k v was a ys is d p.0, put_tracks L (Holds L B h) xs k v was a ys is d p.0 p.1)
ran_tracks L start B g tr (dropping {h = h} {xs = xs} {ys = ys} {k = k} was is a r d) =
    let p = ran_tracks L start B g tr r in
    (drop_sound_lem L xs k was a ys is d p.0, drop_tracks L (Holds L B h) xs k was a ys is d p.0 p.1)

at_none : (n i : ℕ) → at (replicate n vacant) i ≡ vacant
at_none zero i = refl
at_none (suc n) zero = refl
at_none (suc n) (suc i) = at_none n i

none_sits : (n : ℕ) (k : Key) (i : ℕ) → Sits (replicate n vacant) k i → ⊥
none_sits n k i (u, e) = not_both _ k u (at_none n i) e

-- a table made new is sound and holds nothing
pub fresh_sound : (L : Layout) → Sound L (fresh L)
fresh_sound L = record {
  law = record {
    whole = length-replicate (slots L) vacant;
    once = λ k i j s t. absurd (none_sits (slots L) k i s);
    placed = λ k i s. absurd (none_sits (slots L) k i s);
  };
  rest = λ k t st s is ch. none_sits (slots L) k t s;
}

pub fresh_tracks : (L : Layout) → Tracks (fresh L) Nothing
fresh_tracks L k v = (λ s. none_sits (slots L) k s.0 (v, s.1), λ p. absurd p)
