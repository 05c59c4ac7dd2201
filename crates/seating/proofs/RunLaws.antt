-- The law of every run.
use Rattle.std.proofs.Common.{◌≡◌, ℕ, ◌≢◌, ◌↔◌, List, ◌∷◌, length, take, refl, ap, ◌∙◌, inl, inr, arith}
use lib.Seq.{take-append_seam}
use Rattle.seating.specs.Assignments.{Seatable}
use Rattle.seating.specs.Blocking.{blocking}
use Rattle.seating.specs.Calls.{Holdings, Nothing, Has, With, Holds}
use Rattle.seating.specs.Calls.Call.{put}
use Rattle.seating.specs.Layouts.{Key, Value, Content, Layout}
use Rattle.seating.specs.Runs.{fresh, Decided, Named, Others, Blamed, Kept, Law, RunLaw, RunLawFrom, OutcomeLaw}
use Rattle.seating.specs.Runs.Ran.{putting}
use Rattle.seating.specs.Slots.{Held, Stored}
use Rattle.seating.specs.Steps.{Lent, Roomy, Stuck, Missing, PutAnswer, PutDoes}
use Rattle.seating.specs.Steps.PutAnswer.{seated, renewed, too_short, full}
use Rattle.seating.specs.Tables.{Sound}
use Rattle.seating.specs.Theorems.{Beside}
use Rattle.seating.proofs.Changes.{seated_becomes}
use Rattle.seating.proofs.Histories.{Tracks, has, held, seats_with, stuck_unseatable, ran_tracks, fresh_sound, fresh_tracks}
use Rattle.seating.proofs.Keeping.{missing_not_held}
use Rattle.seating.proofs.Refusals.{blame_exact_lem}
use Rattle.seating.proofs.Settling.{stash_least_lem, stuck_blocked_lem}
use Rattle.seating.proofs.Values.{fewer}

seats_decide : (L : Layout) (H : Holdings) (k : Key) (m s : ℕ) → Seatable L (With H k) → Decided L H k (seated m s)
seats_decide L H k m s f = record {
  refused = ((λ r. absurd (let z : ◌≡◌ {A = ℕ} 0 1 = cc r.1 in omega arith)), (λ n. absurd (n f.0 f.1)));
  accepted = ((λ _. f), (λ _. tt));
}

module _ (L : Layout) (H : Holdings) (xs : List Content) (g : Sound L xs) (tr : Tracks xs H) where
  decides : (k : Key) (v : Value) (was is : Lent) (a : PutAnswer) (ys : List Content) → PutDoes L xs k v was a ys is
      → (Has H k → ⊥) → Roomy L was → Decided L H k a
  decides k v was is (seated m s) ys (room, miss, way, n, e) free enough =
      let r = seated_becomes L xs ys k v m g.law miss way in
      seats_decide L H k m s (seats_with L xs ys H k v tr r.0 (missing_not_held L xs k g.law miss) r.1)
  decides k v was is renewed ys (room, (i, f, e), b) free enough = absurd (free (has xs H tr k (i, f.1)))
  decides k v was is too_short ys (n, e, b) free enough = absurd (n enough)
  decides k v was is (full c) ys (room, miss, st, e, n, b) free enough =
      let none = stuck_unseatable L xs H k tr g miss st in record {
        refused = ((λ _. none), (λ _. (c, refl)));
        accepted = ((λ q. absurd q), (λ f. absurd (none f.0 f.1)));
      }

  -- what the slots tell of the other keys, the calls tell too
  module _ (k j : Key) where
    into : With H k j → Beside xs k j
    into (inl e) = inl e
    into (inr p) = inr (held xs H tr j p)

    from : Beside xs k j → With H k j
    from (inl e) = inl e
    from (inr p) = inr (has xs H tr j p)

  blames : (k : Key) → Missing L xs k → Stuck L xs k → Blamed L H xs k (blocking L xs k)
  blames k miss st j = (
    (λ n. let w = beside n in (
      from k j w,
      (let (f, s) = (exact w).1 n in
          (f, fewer L (λ h. Beside xs k h × (h ≢ j)) (Others H k j) f (λ h p. (into k h p.0, p.1)) s)),
    )),
    (λ (w, (f, s)). (exact (into k j w)).0
        (f, fewer L (Others H k j) (λ h. Beside xs k h × (h ≢ j)) f (λ h p. (from k h p.0, p.1)) s)),
  )
    where
      exact : Beside xs k j → Seatable L (λ h. Beside xs k h × (h ≢ j)) ↔ Named xs k (blocking L xs k) j
      exact = blame_exact_lem L xs k j g.law (missing_not_held L xs k g.law miss) (stuck_blocked_lem L xs k g st.none st.filled)

      beside : Named xs k (blocking L xs k) j → Beside xs k j
      beside (inl e) = inl e
      beside (inr (i, m, s)) = inr (i, s)

  names : (k : Key) (v : Value) (was is : Lent) (c : ℕ) (ys : List Content) → PutDoes L xs k v was (full c) ys is
      → Blamed L H ys k (take c is.list)
  names k v was is c ys (room, miss, st, e, n, b) =
      let front : take c is.list ≡ blocking L xs k = ap (λ r. take c r.list) b ∙ rw n (take-append_seam (blocking L xs k) _) in
      rw (e, front) (blames k miss st)

  keeps : Kept L H xs
  keeps = record {
    exact = tr;
    once = g.law.once;
    placed = g.law.placed;
    least = λ f s. stash_least_lem L xs g f (fewer L (Has H) (Held xs) f (has xs H tr) s);
  }

  pub law : Law L H xs
  law = record { decided = decides; named = names; kept = keeps }

pub run_law_from_lem : RunLawFrom
run_law_from_lem L start g h xs r =
    let p = ran_tracks L start (Stored start) g (λ k v. ((λ s. s), (λ s. s))) r in law L (Holds L (Stored start) h) xs p.0 p.1

pub run_law_lem : RunLaw
run_law_lem L h xs r =
    let p = ran_tracks L (fresh L) Nothing (fresh_sound L) (fresh_tracks L) r in law L (Holds L Nothing h) xs p.0 p.1

pub outcome_law_lem : OutcomeLaw
outcome_law_lem L h xs k v was a ys is r d = record {
  decided = λ free enough. before.decided k v was is a ys d free enough;
  named = λ c e. before.named k v was is c ys (rw e at d);
  kept = (run_law_lem L (put k v (length was.work) (length was.list) ∷ h) ys (putting was is a r d)).kept;
}
  where
    before : Law L (Holds L Nothing h) xs
    before = run_law_lem L h xs r
