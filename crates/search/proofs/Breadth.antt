-- Level by level: what one more level gives, and what a search finds.
use Rattle.std.proofs.Common.{◌≡◌, ℕ, zero, suc, ◌+◌, ◌<◌, ◌≤◌, ◌⊎◌, List, [], ◌∷◌, length, sym, refl, ap, ◌∙◌, subst, inl, inr, arith}
use mathlib.Core.List.Memᴰ
use mathlib.Core.List.{Memᴰ}
use Rattle.std.proofs.lemmas.Bool.{cases_lt}
use Rattle.search.specs.Queues.{Queue, Seen, slot, link, source, Tidy, Grew}
use Rattle.search.specs.Scenes.{Scene, Near, Way}
use Rattle.search.specs.Scenes.Way.{last, next}
use Rattle.search.specs.Searches.{Spread, Struck, Level, Trail, onto, Found, Exhausted, Reach, Reached}
use Rattle.search.specs.Searches.Trail.{start, onward}
use Rattle.search.proofs.Spreading.{stays_seen}
use Rattle.seating.specs.Layouts.Content.{vacant}
use Rattle.seating.specs.Paths.{Distinct}
use Rattle.seating.specs.Slots.{at}

-- the links of a queue keep their sources as it grows
pub same_source : {T : ℕ → ℕ → Type 0} (q r : Queue) → Grew T q r → (l : ℕ) → l ≤ q.tail → source r l ≡ source q l
same_source q r w zero h = refl
same_source q r w (suc p) h = ap suc (w.same_slot p (omega arith))

-- and their trails
pub same_trail : {T : ℕ → ℕ → Type 0} (q r : Queue) → Grew T q r → {l : ℕ} {is : List ℕ} → l ≤ q.tail → Trail q l is → Trail r l is
same_trail q r w b start = start
same_trail q r w g (onward p is b t) =
    let lt : p < q.tail = omega arith in
    let e = w.same_link p lt in
    let b' : link r p ≤ p = rw e b in
    let t' : Trail r (link q p) is = same_trail q r w (omega (arith, b, lt)) t in
    subst (λ x. Trail r (suc p) (x ∷ is)) (w.same_slot p lt) (onward p is b' (rw e t'))

-- a way leads to a vacant slot, as far away as it is long
way_end : (h : Scene) (R : ℕ → Type 0) {js : List ℕ} (m : ℕ) {u : ℕ} → Reach h R m u → Way h R u js
    → (i : ℕ) × Reach h R (length js + m) (suc i) × (at h.slots i ≡ vacant)
way_end h R m {u} r (last {i = i} w f) =
    let n : suc m ≡ 1 + m = omega arith in
    (i, subst (λ x. Reach h R x (suc i)) n (u, i, r, w, refl), f)
way_end h R m {u} r (next {i = i} {is = is} w c) =
    let o = way_end h R (suc m) (u, i, r, w, refl) c in
    let n : length is + suc m ≡ suc (length is) + m = omega arith in
    (o.0, subst (λ x. Reach h R x (suc o.0)) n o.1, o.2)

pub length_onto : (is js : List ℕ) → length (onto is js) ≡ length is + length js
length_onto [] js = omega arith
length_onto (i ∷ is) js = omega (arith, length_onto is (i ∷ js))

module _ (h : Scene) (R : ℕ → Type 0) (q : Queue) (s : Tidy q) (linked : (p : ℕ) → p < q.tail → Near h R (source q (link q p)) (slot q p)) where
  -- a way from the source of a link, with the way to that link before it
  trail_way : {l : ℕ} {is js : List ℕ} → l ≤ q.tail → Trail q l is → Way h R (source q l) js → Way h R 0 (onto is js)
  trail_way b start c = c
  trail_way b (onward p is lt t) c = trail_way (omega (arith, lt)) t (next (linked p (omega arith)) c)

  trail_apart : {l : ℕ} {is js : List ℕ} → l ≤ q.tail → Trail q l is → Distinct js
      → ((x : ℕ) → Memᴰ x js → (p : ℕ) × (l ≤ p) × (p < q.tail) × (slot q p ≡ x)) → Distinct (onto is js)
  trail_apart b start d in' = d
  trail_apart {js = js} b (onward p is lt t) d in' =
      trail_apart {js = slot q p ∷ js} (omega (arith, lt)) t (new, d) more
    where
      new : Memᴰ (slot q p) js → ⊥
      new m = let o = in' (slot q p) m in omega (arith, o.1, s.apart o.0 p o.2 (omega arith) o.3)

      more : (x : ℕ) → Memᴰ x (slot q p ∷ js) → (r : ℕ) × (link q p ≤ r) × (r < q.tail) × (slot q r ≡ x)
      more x m = elim (Memᴰ.cases_cons m) [
        | inl e ↦ (p, lt, omega arith, sym e)
        | inr n ↦ (let o = in' x n in (o.0, omega (arith, lt, o.1), o.2, o.3))
      ]

no_mem : (x : ℕ) → Memᴰ x [] → ⊥
no_mem x m = Memᴰ.not-nil m

-- what a level reaches
module _ (h : Scene) (R : ℕ → Type 0) (q r : Queue) (a : ℕ) (b : Reached h R q a) where
  module _ (w : Spread h.slots (Level h R q a (q.tail + 1)) q r) where
    full' : (p : ℕ) → p < r.tail → at h.slots (slot r p) ≡ vacant → ⊥
    full' p l = elim (cases_lt p q.tail) [
      | inl o ↦ rw (w.grew.same_slot p o) (b.full p o)
      | inr n ↦ w.full p n l
    ]

    closed' : (m i : ℕ) → m < q.tail + 1 → Near h R (source r m) i → Seen r i
    closed' m i l n =
        let n' : Near h R (source q m) i = subst (λ x. Near h R x i) (same_source q r w.grew m (omega arith)) n in
        elim (cases_lt m a) [
          | inl o ↦ stays_seen q r b.sound w.grew i (b.closed m i o n')
          | inr o ↦ w.all m i (o, l, n')
        ]

    -- what is seen before the level has its own slots seen after it
    onward_seen : (u i : ℕ) → (u ≡ 0) ⊎ ((s : ℕ) × (u ≡ suc s) × Seen q s) → Near h R u i → Seen r i
    onward_seen u i (inl e) n = closed' 0 i (omega arith) (subst (λ x. Near h R x i) e n)
    onward_seen u i (inr o) n =
        let p = b.sound.listed o.0 o.2 in
        let e : u ≡ source r (suc p.0) = o.1 ∙ ap suc (sym p.2) ∙ ap suc (sym (w.grew.same_slot p.0 p.1)) in
        closed' (suc p.0) i (omega (arith, p.1)) (subst (λ x. Near h R x i) e n)

    known : (m u : ℕ) → m ≤ b.depth → Reach h R m u → (u ≡ 0) ⊎ ((s : ℕ) × (u ≡ suc s) × Seen q s)
    known zero u l e = inl e
    known (suc m) u l e = inr (e.1, e.4, b.covered (suc m) e.1 l (e.0, e.1, e.2, e.3, refl))

    covered' : (m i : ℕ) → m ≤ b.depth + 1 → Reach h R m (suc i) → Seen r i
    covered' zero i l e = absurd (omega arith)
    covered' (suc m) i l e =
        let j : i ≡ e.1 = omega (arith, e.4) in
        rw j (onward_seen e.0 e.1 (known m e.0 (omega arith) e.2) e.3)

  module _ (w : Grew (Level h R q a (q.tail + 1)) q r) where
    linked' : (p : ℕ) → p < r.tail → Near h R (source r (link r p)) (slot r p)
    linked' p l = elim (cases_lt p q.tail) [
      | inl o ↦ (let n = b.linked p o in let k = b.sound.back p o in
          rw (w.same_slot p o, w.same_link p o, same_source q r w (link q p) (omega (arith, k))) n)
      | inr n ↦ (let t = w.among p n l in rw (same_source q r w (link r p) (omega (arith, t.1))) t.2)
    ]

    deep' : (p : ℕ) → q.tail ≤ p → p < r.tail → (is : List ℕ) × Trail r (suc p) is × (length is ≡ b.depth + 1)
    deep' p l g =
        let t = w.among p l g in
        let d = b.deep (link r p) t.0 (omega (arith, t.1)) in
        (slot r p ∷ d.0, onward p d.0 (w.sound.back p g) (same_trail q r w (omega (arith, t.1)) d.1), omega (arith, d.2))

  pub one_level : Spread h.slots (Level h R q a (q.tail + 1)) q r → Reached h R r (q.tail + 1)
  one_level w = record {
    depth = b.depth + 1;
    sound = w.grew.sound;
    low = omega (arith, w.grew.longer);
    full = full' w;
    linked = linked' w.grew;
    closed = closed' w;
    covered = covered' w;
    deep = λ n x y. down n x y;
  }
    where
      down : (n : ℕ) → q.tail + 1 ≤ n → n ≤ r.tail → (is : List ℕ) × Trail r n is × (length is ≡ b.depth + 1)
      down zero x y = absurd (omega arith)
      down (suc p) x y = deep' w.grew p (omega arith) (omega arith)

  pub exhausted : Spread h.slots (Level h R q a (q.tail + 1)) q r → r.tail ≡ q.tail → Exhausted h R r
  exhausted w e = record {
    sound = w.grew.sound;
    full = full'';
    linked = linked' w.grew;
    near = λ i. closed' w 0 i (omega arith);
    shut = shut';
    none = λ js c. none' js (λ i. closed' w 0 i (omega arith)) c;
  }
    where
      full'' : (i : ℕ) → Seen r i → at h.slots i ≡ vacant → ⊥
      full'' i s f = let o = w.grew.sound.listed i s in full' w o.0 o.1 (ap (at h.slots) o.2 ∙ f)

      shut' : (s i : ℕ) → Seen r s → Near h R (suc s) i → Seen r i
      shut' s i g n =
          let o = w.grew.sound.listed s g in
          closed' w (suc o.0) i (omega (arith, o.1)) (subst (λ x. Near h R (suc x) i) (sym o.2) n)

      none' : {u : ℕ} (js : List ℕ) → ((i : ℕ) → Near h R u i → Seen r i) → Way h R u js → ⊥
      none' js here (last {i = i} m f) = full'' i (here i m) f
      none' js here (next {i = i} {is = is} m c) = none' is (λ x n. shut' i x (here i m) n) c

  pub found : (j : ℕ) → Struck h.slots (Level h R q a (q.tail + 1)) q r j → Found h R r j
  found j w = record {
    sound = w.grew.sound;
    low = here;
    walk = d.0;
    trail = d.1;
    way = way';
    apart = apart';
    least = least';
  }
    where
      here : j < r.tail
      here = omega (arith, w.top)

      d : (is : List ℕ) × Trail r (suc j) is × (length is ≡ b.depth + 1)
      d = deep' w.grew j w.new here

      ends : {l : ℕ} {is : List ℕ} → l ≡ suc j → Trail r l is → Way h R 0 (onto is []) × Distinct (onto is [])
      ends e start = absurd (omega arith)
      ends e (onward p is lt t) =
          let x : p ≡ j = omega arith in
          let f : at h.slots (slot r p) ≡ vacant = rw x w.free in (
            trail_way h R r w.grew.sound (linked' w.grew) (omega (arith, lt, here)) t (last (linked' w.grew p (omega (arith, here))) f),
            trail_apart h R r w.grew.sound (linked' w.grew) {js = slot r p ∷ []} (omega (arith, lt, here)) t ((no_mem (slot r p), tt))
                (λ y m. elim (Memᴰ.cases_cons m) [ inl g ↦ (p, lt, omega (arith, here), sym g) | inr n' ↦ absurd (no_mem y n') ]),
          )

      way' : Way h R 0 (onto d.0 [])
      way' = (ends refl d.1).0

      apart' : Distinct (onto d.0 [])
      apart' = (ends refl d.1).1

      least' : (js : List ℕ) → Way h R 0 js → length (onto d.0 []) ≤ length js
      least' js c = elim (cases_lt b.depth (length js)) [
        | inl o ↦ omega (arith, d.2, length_onto d.0 [])
        | inr o ↦ absurd (
            let e = way_end h R 0 refl c in
            let g = b.covered (length js + 0) e.0 (omega arith) e.1 in
            let p = b.sound.listed e.0 g in
            b.full p.0 p.1 (ap (at h.slots) p.2 ∙ e.2))
      ]

-- one more link of a level
module _ {T : ℕ → ℕ → Type 0} (h : Scene) (R : ℕ → Type 0) (q r : Queue) (w : Grew T q r) (a l : ℕ) (lo : a ≤ l) (le : l ≤ q.tail) where
  pub level_into : (e : ℕ) → l < e → (m i : ℕ) → Level h R q a l m i ⊎ Level h R r l (l + 1) m i → Level h R q a e m i
  level_into e g m i (inl t) = (t.0, omega (arith, t.1), t.2)
  level_into e g m i (inr t) =
      (omega (arith, t.0), omega (arith, t.1), rw (same_source q r w m (omega (arith, t.1))) at t.2)

  pub level_onto : (m i : ℕ) → Level h R q a (l + 1) m i → Level h R q a l m i ⊎ Level h R r l (l + 1) m i
  level_onto m i t = elim (cases_lt m l) [
    | inl o ↦ inl (t.0, o, t.2)
    | inr n ↦ inr (n, t.1, rw (same_source q r w m (omega (arith, t.1))) t.2)
  ]

-- a search begins with an empty queue
pub begun : (h : Scene) (R : ℕ → Type 0) (q : Queue) → Tidy q → q.tail ≡ 0 → Reached h R q 0
begun h R q s e = record {
  depth = 0;
  sound = s;
  low = omega arith;
  full = λ p g. absurd (omega arith);
  linked = λ p g. absurd (omega arith);
  closed = λ m i g. absurd (omega arith);
  covered = λ m i g. away m i g;
  deep = λ l x y. let z : 0 ≡ l = omega arith in ([], subst (λ n. Trail q n []) z start, refl);
}
  where
    away : (m i : ℕ) → m ≤ 0 → Reach h R m (suc i) → Seen q i
    away zero i g e = absurd (omega arith)
    away (suc m) i g e = absurd (omega arith)
