-- A search begins with its roots.
use Rattle.std.proofs.Common.{◌≡◌, ℕ, zero, suc, ◌+◌, ◌≤◌, ◌↔◌, List, [], ◌∷◌, length, sym, refl, ◌∙◌, subst, inl, inr, arith}
use Rattle.std.proofs.lemmas.Bool.{cases_lt}
use Rattle.search.specs.Queues.{Queue, Seen, slot, link, source, Tidy, Offered}
use Rattle.search.specs.Scenes.{Scene, Near, Way}
use Rattle.search.specs.Scenes.Way.{last, next}
use Rattle.search.specs.Searches.{Spread, Struck, Toward, Between, Level, Trail, Found, Exhausted, Reach, Reached, Nowhere, Roots}
use Rattle.search.proofs.Breadth.{begun, found, exhausted, one_level}
use Rattle.search.proofs.Bridging.{same_holder}
use Rattle.search.proofs.Spreading.{spread_as, spread_then, spread_one, struck_as}
use Rattle.search.proofs.Walking.{trail_root}
use Rattle.seating.specs.Layouts.{Key, Value, Content, Candidate}
use Rattle.seating.specs.Layouts.Content.{vacant, holding}
use Rattle.seating.specs.Slots.{at, Occupied}
use Rattle.seating.proofs.Sitting.{not_both, occupied}

-- one level below: the roots are seen, and nothing else
pub roots_reached : (h : Scene) (q : Queue) → Roots h.slots q → Reached h (Seen q) q 1
roots_reached h q r = record {
  depth = 1;
  sound = r.sound;
  low = omega arith;
  full = r.full;
  linked = λ p l. rw (r.rooted p l) (r.sound.marked p l);
  closed = λ m i l n. (let z : m ≡ 0 = omega arith in subst (λ m. Near h (Seen q) (source q m) i) z n);
  covered = covers;
  deep = down;
}
  where
    covers : (m i : ℕ) → m ≤ 1 → Reach h (Seen q) m (suc i) → Seen q i
    covers zero i l e = absurd (omega arith)
    covers (suc zero) i l (u, j, z, n, e) =
        let s : Seen q j = subst (λ u. Near h (Seen q) u j) z n in let x : j ≡ i = omega arith in rw x at s
    covers (suc (suc m)) i l e = absurd (omega arith)

    down : (l : ℕ) → 1 ≤ l → l ≤ q.tail → (is : List ℕ) × Trail q l is × (length is ≡ 1)
    down zero x y = absurd (omega arith)
    down (suc p) x y = (slot q p ∷ [], trail_root q p (r.sound.back p (omega arith)) (r.rooted p (omega arith)), refl)

-- what was offered to an empty queue are its roots
module _ (P : ℕ → Type 0) (xs : List Content) (q r : Queue) (none : q.tail ≡ 0) where
  pub spread_seen : Spread xs (Toward 0 P) q r → (i : ℕ) → Seen r i ↔ P i
  spread_seen w i = (
    (λ s. let (p, l, e) = w.grew.sound.listed i s in rw e at (w.grew.among p (omega arith) l).1),
    (λ t. w.all 0 i (refl, t)),
  )

-- a vacant root is the end of a shortest way
pub struck_found : (h : Scene) (P : ℕ → Type 0) (q r : Queue) (j : ℕ) → Tidy q → q.tail ≡ 0 → Struck h.slots (Toward 0 P) q r j → Found h P r j
struck_found h P q r j tidy none w = found h P q r 0 (begun h P q tidy none) j
    (struck_as h.slots q r j (λ m i t. (omega arith, omega (arith, t.0), subst (λ m. Near h P (source q m) i) (sym t.0) t.1)) w)

-- other words for the roots
module _ (h : Scene) (R P : ℕ → Type 0) (same : (i : ℕ) → R i ↔ P i) where
  pub near_as : (u i : ℕ) → Near h R u i → Near h P u i
  near_as zero i n = (same i).0 n
  near_as (suc t) i n = n

  pub near_back : (u i : ℕ) → Near h P u i → Near h R u i
  near_back zero i n = (same i).1 n
  near_back (suc t) i n = n

  way_as : {u : ℕ} {is : List ℕ} → Way h R u is → Way h P u is
  way_as (last {u = u} {i = i} n e) = last (near_as u i n) e
  way_as (next {u = u} {i = i} n w) = next (near_as u i n) (way_as w)

  way_back : {u : ℕ} {is : List ℕ} → Way h P u is → Way h R u is
  way_back (last {u = u} {i = i} n e) = last (near_back u i n) e
  way_back (next {u = u} {i = i} n w) = next (near_back u i n) (way_back w)

  pub found_as : (q : Queue) (j : ℕ) → Found h R q j → Found h P q j
  found_as q j f = record {
    sound = f.sound;
    low = f.low;
    walk = f.walk;
    trail = f.trail;
    way = way_as f.way;
    apart = f.apart;
    least = λ js w. f.least js (way_back w);
  }

  pub exhausted_as : (q : Queue) → Exhausted h R q → Exhausted h P q
  exhausted_as q x = record {
    sound = x.sound;
    full = x.full;
    linked = λ p l. near_as (source q (link q p)) (slot q p) (x.linked p l);
    near = λ i p. x.near i ((same i).1 p);
    shut = x.shut;
    none = λ js w. x.none js (way_back w);
  }

-- past the roots it does not matter which they were
pub level_any : (h : Scene) (R P : ℕ → Type 0) (q : Queue) (a b m i : ℕ) → 1 ≤ a → Level h R q a b m i → Level h P q a b m i
level_any h R P q a b zero i l (x, y, n) = absurd (omega arith)
level_any h R P q a b (suc p) i l (x, y, n) = (x, y, n)

-- the candidates of the key of an entry are the slots near its source
module _ (h : Scene) (q : Queue) (l p : ℕ) (is : l ≡ suc p) (k : Key) (v : Value) (here : at h.slots (slot q p) ≡ holding k v) where
  pub entry_into : (m i : ℕ) → Toward l (Candidate h.layout k) m i → Level h Nowhere q l (l + 1) m i
  entry_into m i t =
      (omega (arith, t.0), omega (arith, t.0), subst (λ x. Near h Nowhere (source q x) i) (sym (t.0 ∙ is)) (k, v, here, t.1))

  pub entry_onto : (m i : ℕ) → Level h Nowhere q l (l + 1) m i → Toward l (Candidate h.layout k) m i
  entry_onto m i t =
      let z : m ≡ l = omega (arith, t.0, t.1) in
      let n : Near h Nowhere (suc (slot q p)) i = subst (λ x. Near h Nowhere (source q x) i) (z ∙ is) t.2 in
      (z, subst (λ x. Candidate h.layout x i) (same_holder _ _ _ _ _ n.2 here) n.3)

-- a level below the roots
module _ (h : Scene) (R : ℕ → Type 0) (q r : Queue) (a : ℕ) (b : Reached h R q a) (some : 1 ≤ a) where
  any : Spread h.slots (Level h Nowhere q a (q.tail + 1)) q r → Spread h.slots (Level h R q a (q.tail + 1)) q r
  any w = spread_as h.slots q r (λ m i. level_any h Nowhere R q a (q.tail + 1) m i some) (λ m i. level_any h R Nowhere q a (q.tail + 1) m i some) w

  pub level_found : (j : ℕ) → Struck h.slots (Level h Nowhere q a (q.tail + 1)) q r j → Found h R r j
  level_found j w = found h R q r a b j (struck_as h.slots q r j (λ m i. level_any h Nowhere R q a (q.tail + 1) m i some) w)

  pub level_exhausted : Spread h.slots (Level h Nowhere q a (q.tail + 1)) q r → r.tail ≡ q.tail → Exhausted h R r
  level_exhausted w e = exhausted h R q r a b (any w) e

  pub level_reached : Spread h.slots (Level h Nowhere q a (q.tail + 1)) q r → Reached h R r (q.tail + 1)
  level_reached w = one_level h R q r a b (any w)

-- the held slots of a range, one more slot looked at
abbrev pub HeldIn : List Content → ℕ → ℕ → ℕ → Type 0
HeldIn xs a b i = Between a b i × Occupied xs i

module _ (xs : List Content) (a i : ℕ) (le : a ≤ i) (q r : Queue) (before : Spread xs (Toward 0 (HeldIn xs a i)) q r) where
  pub held_more : (s : Queue) → Offered 0 i r s → (at xs i ≡ vacant → ⊥) → Spread xs (Toward 0 (HeldIn xs a (i + 1))) q s
  held_more s o full =
      spread_then xs q r s before
      (λ m j t. elim t [ inl x ↦ (x.0, ((x.1.0.0, omega (arith, x.1.0.1)), x.1.1)) | inr x ↦ (x.0, ((omega (arith, x.1), omega (arith, x.1)), rw x.1 (occupied xs i full))) ])
      (λ m j t. elim (cases_lt j i) [ inl l ↦ inl (t.0, ((t.1.0.0, l), t.1.1)) | inr l ↦ inr (t.0, omega (arith, t.1.0.1)) ])
      (spread_one xs 0 i r s o (λ _. full))

  pub held_skip : at xs i ≡ vacant → Spread xs (Toward 0 (HeldIn xs a (i + 1))) q r
  held_skip e = spread_as xs q r
      (λ m j t. (t.0, ((t.1.0.0, omega (arith, t.1.0.1)), t.1.1)))
      (λ m j t. elim (cases_lt j i) [
        | inl l ↦ (t.0, ((t.1.0.0, l), t.1.1))
        | inr l ↦ absurd (let o = t.1.1 in let z : j ≡ i = omega (arith, t.1.0.1) in not_both _ o.0 o.1.0 (rw z e) o.1.1)
      ])
      before
