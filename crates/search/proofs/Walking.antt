-- A way carried out from its last slot back.
use Rattle.std.proofs.Common.{◌≡◌, ℕ, suc, ◌≤◌, List, [], ◌∷◌, set, sym, refl, ap, ◌∙◌, subst, arith}
use mathlib.Core.List.{Memᴰ}
use Rattle.search.specs.Queues.{Queue, slot, link}
use Rattle.search.specs.Roads.{Road, Halfway}
use Rattle.search.specs.Scenes.{Scene}
use Rattle.search.specs.Searches.{Trail, onto, Found}
use Rattle.search.specs.Searches.Trail.{start, onward}
use Rattle.seating.specs.Layouts.{Content}
use Rattle.seating.specs.Paths.{Distinct, carry}
use Rattle.seating.specs.Slots.{at}
use Rattle.seating.proofs.Carrying.{carry_off}

distinct_onto : (is js : List ℕ) → Distinct (onto is js) → Distinct js
distinct_onto [] js d = d
distinct_onto (i ∷ is) js d = (distinct_onto is (i ∷ js) d).1

-- a way that was found can be carried out
pub found_road : (h : Scene) (R : ℕ → Type 0) (q : Queue) (j : ℕ) (f : Found h R q j) → Road q j f.walk
found_road h R q j f = record { sound = f.sound; low = f.low; trail = f.trail; apart = f.apart }

back : {q : Queue} {l : ℕ} {is : List ℕ} (p : ℕ) → l ≡ suc p → Trail q l is → (r : List ℕ) × (is ≡ slot q p ∷ r) × Trail q (link q p) r × (link q p ≤ p)
back p e start = absurd (omega arith)
back {q} p e (onward m is lt t) =
    let x : m ≡ p = omega arith in
    subst (λ n. (r : List ℕ) × (slot q m ∷ is ≡ slot q n ∷ r) × Trail q (link q n) r × (link q n ≤ n)) x (is, refl, t, lt)

back_none : {q : Queue} {l : ℕ} {is : List ℕ} → l ≡ 0 → Trail q l is → is ≡ []
back_none e start = refl
back_none e (onward m is lt t) = absurd (omega arith)

module _ (xs : List Content) (q : Queue) (j : ℕ) (w : List ℕ) (road : Road q j w) where
  pub halfway_start : Halfway xs q w j xs
  halfway_start = record { low = road.low; rest = w; done = []; trail = road.trail; whole = refl; here = refl }

  module _ (p : ℕ) (ys : List Content) (half : Halfway xs q w p ys) where
    first : (r : List ℕ) × (half.rest ≡ slot q p ∷ r) × Trail q (link q p) r × (link q p ≤ p)
    first = back p refl half.trail

    pub halfway_end : (c : Content) → link q p ≡ 0 → set ys (slot q p) c ≡ carry xs (onto w []) c
    halfway_end c e =
        let n : first.0 ≡ [] = back_none e first.2 in
        let o : onto w [] ≡ slot q p ∷ half.done =
        sym half.whole ∙ ap (λ x. onto x half.done) (first.1 ∙ ap (λ r. slot q p ∷ r) n) in
        rw (o, half.here) refl

    module _ (b : ℕ) (e : link q p ≡ suc b) where
      second : (r : List ℕ) × (first.0 ≡ slot q b ∷ r) × Trail q (link q b) r × (link q b ≤ b)
      second = back b e first.2

      whole' : onto second.0 (slot q b ∷ slot q p ∷ half.done) ≡ onto w []
      whole' = sym (ap (λ x. onto x half.done) (first.1 ∙ ap (λ r. slot q p ∷ r) second.1)) ∙ half.whole

      apart' : Distinct (slot q b ∷ slot q p ∷ half.done)
      apart' = distinct_onto second.0 (slot q b ∷ slot q p ∷ half.done) (rw whole' road.apart)

      -- what the entry b holds is still there
      pub still : at ys (slot q b) ≡ at xs (slot q b)
      still = rw half.here (carry_off xs half.done _ (slot q b) (λ m. apart'.0 (Memᴰ.tail m)))

      pub halfway_more : (c : Content) → c ≡ at ys (slot q b) → Halfway xs q w b (set ys (slot q p) c)
      halfway_more c f = record {
        low = omega (arith, half.low, first.3);
        rest = slot q b ∷ second.0;
        done = slot q p ∷ half.done;
        trail = subst (λ r. Trail q (suc b) r) second.1 (rw e at first.2);
        whole = whole';
        here = rw (f ∙ still, half.here) refl;
      }

-- the way back from a link is one
pub trail_one : {q : Queue} {l m : ℕ} {is js : List ℕ} → l ≡ m → Trail q l is → Trail q m js → is ≡ js
trail_one e start t = sym (back_none (sym e) t)
trail_one {q} e (onward p is lt t) u =
    let b = back p (sym e) u in
    ap (λ r. slot q p ∷ r) (trail_one refl t b.2) ∙ sym b.1

-- the way back from an entry, by that from its link
pub trail_on : (q : Queue) (p b : ℕ) (is : List ℕ) → link q p ≤ p → link q p ≡ suc b → Trail q (suc b) is → Trail q (suc p) (slot q p ∷ is)
trail_on q p b is le e t = onward p is le (subst (λ x. Trail q x is) (sym e) t)

pub trail_root : (q : Queue) (p : ℕ) → link q p ≤ p → link q p ≡ 0 → Trail q (suc p) (slot q p ∷ [])
trail_root q p le e = onward p [] le (subst (λ x. Trail q x []) (sym e) start)
