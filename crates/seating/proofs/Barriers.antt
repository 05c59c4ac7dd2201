-- Barriers: what the keys of the stash can reach, all of it full, and why a barrier lasts.
use Rattle.std.proofs.Common.{◌≡◌, ℕ, ◌<◌, ◌≤◌, Bool, true, false, ◌≢◌, ◌⊎◌, List, length, set, sym, ◌∙◌, inl, inr, arith}
use mathlib.Core.List.Memᴰ
use mathlib.Core.List.{Memᴰ}
use Rattle.std.proofs.lemmas.List.{get_or-set_same, get_or-set_other, length-set}
use Rattle.std.proofs.lemmas.Bool.{cases_eq, both_ways}
use Rattle.seating.specs.Layouts.{Key, Value, Content, Layout, bucket_slots, Stash, Candidate}
use Rattle.seating.specs.Layouts.Content.{vacant, holding}
use Rattle.seating.specs.Paths.{CuckooPath, Distinct, carry}
use Rattle.seating.specs.Paths.Path.{last, next}
use Rattle.seating.specs.Slots.{at, Sits, Occupied}
use Rattle.seating.specs.Tables.{Lawful}
use Rattle.seating.proofs.Carrying.{carry_off, carry_keeps}
use Rattle.seating.proofs.Loops.{low_path}
use Rattle.seating.proofs.Sitting.{not_both, sits_set, sits_vacated}

-- a set of full bucket slots that no key in it, and no key in the stash, can leave for another bucket slot
pub record Barrier (L : Layout) (xs : List Content) (X : ℕ → Bool) : Type 0 where
  pub low : (i : ℕ) → X i ≡ true → i < bucket_slots L
  pub full : (i : ℕ) → X i ≡ true → Occupied xs i
  pub shut : (k : Key) (i j : ℕ) → (X i ≡ true) ⊎ Stash L i → Sits xs k i → Candidate L k j → X j ≡ true

module _ (L : Layout) (xs : List Content) (X : ℕ → Bool) (bar : Barrier L xs X) where
  -- a key whose candidates lie in the barrier has no path
  pub stuck : {k : Key} {is : List ℕ} → ((j : ℕ) → Candidate L k j → X j ≡ true) → CuckooPath L xs k is → ⊥
  stuck near (last {i = i} m e) = let o = bar.full i (near i m) in not_both _ o.0 o.1.0 e o.1.1
  stuck near (next {h = h} {i = i} m s r) = stuck (λ j. bar.shut h i j (inl (near i m)) s) r

  avoids : {k : Key} {is : List ℕ} → CuckooPath L xs k is → (i : ℕ) → Memᴰ i is → X i ≡ true → ⊥
  avoids (last {i = j} m e) i q x =
      let o = bar.full j (rw (Memᴰ.eq_of_singleton q) at x) in not_both _ o.0 o.1.0 e o.1.1
  avoids (next {h = h} {i = j} m s r) i q x = elim (Memᴰ.cases_cons q)
      [ inl e ↦ stuck (λ a. bar.shut h j a (inl (rw e at x)) s) r | inr q' ↦ avoids r i q' x ]

-- a path of another key meets no slot of a barrier, which stays one when it is carried out
pub barrier_stays : (L : Layout) (xs : List Content) (X : ℕ → Bool) (k : Key) (v : Value) (is : List ℕ)
    → Barrier L xs X → CuckooPath L xs k is → Barrier L (carry xs is (holding k v)) X
barrier_stays L xs X k v is bar ch =
    record {
      low = bar.low;
      full = λ i x. rw (off i (inl x)) (bar.full i x);
      shut = λ h i j w s c. bar.shut h i j w (rw (off i w) at s) c;
    }
  where
    off : (i : ℕ) → (X i ≡ true) ⊎ Stash L i → at (carry xs is (holding k v)) i ≡ at xs i
    off i (inl x) = carry_off xs is (holding k v) i (λ q. avoids L xs X bar ch i q x)
    off i (inr s) = carry_off xs is (holding k v) i (λ q. let l = low_path L ch i q in omega arith)

-- a barrier but for its slot x, which is vacant, and k in hand
record Nearly (L : Layout) (X : ℕ → Bool) (x : ℕ) (xs : List Content) (k : Key) (v : Value) : Type 0 where
  long : bucket_slots L ≤ length xs
  full : (i : ℕ) → X i ≡ true → (i ≢ x) → Occupied xs i
  shut : (h : Key) (i j : ℕ) → (X i ≡ true) ⊎ Stash L i → Sits xs h i → Candidate L h j → X j ≡ true
  hand : (j : ℕ) → Candidate L k j → X j ≡ true

module _ (L : Layout) (X : ℕ → Bool) (x : ℕ) (ys : List Content) (k : Key) (v : Value) (i : ℕ) (may : Candidate L k i) (b : Nearly L X x ys k v) where
  inside : i < length ys
  inside = omega (arith, b.long)

  shut' : (h : Key) (a j : ℕ) → (X a ≡ true) ⊎ Stash L a → Sits (set ys i (holding k v)) h a → Candidate L h j → X j ≡ true
  shut' h a j w s c = elim (sits_set ys i k v inside h a s)
      [ inl q ↦ b.hand j (rw q.1 at c) | inr q ↦ b.shut h a j w q.1 c ]

  full' : (a : ℕ) → X a ≡ true → (a ≢ i → a ≢ x) → Occupied (set ys i (holding k v)) a
  full' a xa n = elim (cases_eq a i) [
    | inl q ↦ (k, (v, rw (q, get_or-set_same ys i (holding k v) vacant inside)))
    | inr m ↦ rw (get_or-set_other ys i a (holding k v) vacant m) (b.full a xa (n m))
  ]

-- the key at slot x of a barrier is dropped, and a key of the stash, at slot t, is carried into the buckets
pub barrier_refilled : (L : Layout) (xs : List Content) (X : ℕ → Bool) (k : Key) (v : Value) (is : List ℕ) (x t : ℕ)
    → Lawful L xs → Barrier L xs X → X x ≡ true → Stash L t → at xs t ≡ holding k v
    → CuckooPath L (set (set xs x vacant) t vacant) k is → Distinct is
    → Barrier L (carry (set (set xs x vacant) t vacant) is (holding k v)) X
barrier_refilled L xs X k v is x t law bar in' st here ch d = carry_keeps (Nearly L X x) (λ zs. Barrier L zs X) step end is v ch d start
  where
    step : (ys : List Content) (k : Key) (v : Value) (i : ℕ) (h : Key) (w : Value)
        → Candidate L k i → at ys i ≡ holding h w → Nearly L X x ys k v → Nearly L X x (set ys i (holding k v)) h w
    step ys k v i h w m e b = record {
      long = rw length-set b.long;
      full = λ a xa n. full' L X x ys k v i m b a xa (λ _. n);
      shut = shut' L X x ys k v i m b;
      hand = λ j. b.shut h i j (inl (b.hand i m)) (w, e);
    }

    end : (ys : List Content) (k : Key) (v : Value) (i : ℕ) → Candidate L k i → at ys i ≡ vacant → Nearly L X x ys k v → Barrier L (set ys i (holding k v)) X
    end ys k v i m e b = record { low = bar.low; shut = shut' L X x ys k v i m b; full = λ a xa. full' L X x ys k v i m b a xa (λ n q. n (q ∙ sym was)) }
      where
        was : i ≡ x
        was = elim (cases_eq i x)
            [ inl q ↦ q | inr n ↦ absurd (let o = b.full i (b.hand i m) n in not_both _ o.0 o.1.0 e o.1.1) ]

    xl : x < length xs
    xl = omega (arith, bar.low x in', law.whole)

    tl : t < length (set xs x vacant)
    tl = rw length-set (omega (arith, st, law.whole))

    start : Nearly L X x (set (set xs x vacant) t vacant) k v
    start = record {
      long = rw (length-set, length-set) (omega (arith, law.whole));
      full = λ i xi n. rw (get_or-set_other (set xs x vacant) t i vacant vacant (omega (arith, bar.low i xi)), get_or-set_other xs x i vacant vacant n) (bar.full i xi);
      shut = λ h i j w s. bar.shut h i j w (sits_vacated xs x xl h i (sits_vacated (set xs x vacant) t tl h i s).1).1;
      hand = λ j. bar.shut k t j (inr st) (v, here);
    }

-- a key outside a barrier is dropped
pub barrier_spared : (L : Layout) (xs : List Content) (X : ℕ → Bool) (i : ℕ) → i < length xs → X i ≡ false
    → Barrier L xs X → Barrier L (set xs i vacant) X
barrier_spared L xs X i l out bar = record {
  low = bar.low;
  full = λ a x. rw (get_or-set_other xs i a vacant vacant (λ e. both_ways (X i) out (rw e at x))) (bar.full a x);
  shut = λ h a j w s. bar.shut h a j w (sits_vacated xs i l h a s).1;
}
