-- Going on from the stash: all that a stuck key can reach.
use Rattle.std.proofs.Common.{◌≡◌, ℕ, zero, suc, ◌+◌, ◌<◌, ◌≤◌, ◌↔◌, sym, refl, ◌∙◌, subst, inl, inr, arith}
use Rattle.std.proofs.lemmas.Bool.{cases_lt}
use Rattle.search.specs.Queues.{Queue, Seen, slot, link, source, Grew}
use Rattle.search.specs.Scenes.{Scene, Near}
use Rattle.search.specs.Searches.{Spread, Toward, Level, Nowhere, Closed, Flooding, Before, Waiting}
use Rattle.search.proofs.Breadth.{same_source}
use Rattle.search.proofs.Rooting.{level_any, near_as, near_back}
use Rattle.search.proofs.Spreading.{stays_seen, grew_as}
use Rattle.seating.specs.Layouts.{Stash}
use Rattle.seating.specs.Slots.{Occupied}

-- the slots of the stash were added to a closed set
module _ (h : Scene) (q r : Queue) (s : Closed h q) (w : Spread h.slots (Toward 0 (Waiting h)) q r) where
  pub seen_before : (i : ℕ) → Before r (q.tail + 1) i ↔ Seen q i
  seen_before i = (
    (λ (p, l, e). (let o : p < q.tail = omega arith in let m = s.sound.marked p o in rw (sym (w.grew.same_slot p o) ∙ e) at m)),
    (λ x. let (p, l, e) = s.sound.listed i x in (p, omega arith, w.grew.same_slot p l ∙ e)),
  )

  pub flood_begun : ((i : ℕ) → Stash h.layout i → Occupied h.slots i)
      → Flooding h (Before r (q.tail + 1)) r (q.tail + 1)
  flood_begun filled = record {
    sound = w.grew.sound;
    linked = λ p g. elim (cases_lt p q.tail) [
      | inl o ↦ inl (rw (w.grew.same_slot p o, w.grew.same_link p o, same_source q r w.grew (link q p) (omega (arith, s.sound.back p o))) (old p o (link q p) refl))
      | inr o ↦ inr (w.grew.among p o g).1.stash
    ];
    stash = λ i x. w.all 0 i (refl, record { stash = x; held = filled i x });
    closed = λ m i g n. done m i g n;
  }
    where
      old : (p : ℕ) → p < q.tail → (l : ℕ) → l ≡ link q p → Near h (Before r (q.tail + 1)) (source q l) (slot q p)
      old p o zero e = (seen_before (slot q p)).1 (s.sound.marked p o)
      old p o (suc b) e = s.linked p b o (sym e)

      done : (m i : ℕ) → m < q.tail + 1 → Near h (Before r (q.tail + 1)) (source r m) i → Seen r i
      done zero i g n = stays_seen q r s.sound w.grew i ((seen_before i).0 n)
      done (suc p) i g n =
          let o : p < q.tail = omega arith in
          stays_seen q r s.sound w.grew i
          (s.shut (slot q p) i (s.sound.marked p o) (subst (λ x. Near h Nowhere (suc x) i) (w.grew.same_slot p o) n))

-- one link of the flood
module _ (h : Scene) (R : ℕ → Type 0) (q r : Queue) (l : ℕ) (f : Flooding h R q l) (some : 1 ≤ l) (le : l ≤ q.tail) (v : Grew (Level h Nowhere q l (l + 1)) q r) where
  w : Grew (Level h R q l (l + 1)) q r
  w = grew_as q r (λ m i. level_any h Nowhere R q l (l + 1) m i some) v

  -- what was reached on the way through it
  pub flood_grows : Flooding h R r l
  flood_grows = record {
    sound = w.sound;
    linked = λ p g. elim (cases_lt p q.tail) [
      | inl o ↦ (let k = f.sound.back p o in elim (f.linked p o) [
        | inl n ↦ inl (rw (w.same_slot p o, w.same_link p o, same_source q r w (link q p) (omega (arith, k))) n)
        | inr t ↦ inr (rw (w.same_slot p o) t)
      ])
      | inr o ↦ (let t = w.among p o g in inl (rw (same_source q r w (link r p) (omega (arith, t.1))) t.2))
    ];
    stash = λ i x. stays_seen q r f.sound w i (f.stash i x);
    closed = λ m i g n. stays_seen q r f.sound w i (f.closed m i g (subst (λ x. Near h R x i) (same_source q r w m (omega arith)) n));
  }

  -- and the link is done
  pub flood_more : ((m i : ℕ) → Level h Nowhere q l (l + 1) m i → Seen r i) → Flooding h R r (l + 1)
  flood_more all = record {
    sound = w.sound;
    linked = flood_grows.linked;
    stash = flood_grows.stash;
    closed = λ m i g n. elim (cases_lt m l) [
      | inl o ↦ flood_grows.closed m i o n
      | inr o ↦ all m i (level_any h R Nowhere q l (l + 1) m i some (o, g, subst (λ x. Near h R x i) (same_source q r w m (omega arith)) n))
    ];
  }

-- other words for the roots
pub flooding_as : (h : Scene) (R P : ℕ → Type 0) (q : Queue) (l : ℕ) → ((i : ℕ) → R i ↔ P i) → Flooding h R q l → Flooding h P q l
flooding_as h R P q l same f = record {
  sound = f.sound;
  linked = λ p g. elim (f.linked p g) [ inl n ↦ inl (near_as h R P same (source q (link q p)) (slot q p) n) | inr s ↦ inr s ];
  stash = f.stash;
  closed = λ m i g n. f.closed m i g (near_back h R P same (source q m) i n);
}
