-- Parts of a search, one after another.
use Rattle.std.proofs.Common.{◌≡◌, ℕ, ◌+◌, ◌*◌, ◌<◌, ◌≤◌, ◌⊎◌, List, get_or, sym, refl, ap, ◌∙◌, inl, inr, arith}
use Rattle.std.proofs.lemmas.Bool.{cases_lt}
use Rattle.search.specs.Queues.{Queue, Seen, slot, Tidy, Grew, Offered}
use Rattle.search.specs.Searches.{Spread, Struck, Toward, Between, InFirst}
use Rattle.seating.specs.Layouts.{Content}
use Rattle.seating.specs.Layouts.Content.{vacant}
use Rattle.seating.specs.Slots.{at}

-- what was seen stays seen
pub stays_seen : {T : ℕ → ℕ → Type 0} (q r : Queue) → Tidy q → Grew T q r → (i : ℕ) → Seen q i → Seen r i
stays_seen q r s w i h =
    let o = s.listed i h in
    let m = w.sound.marked o.0 (omega (arith, o.1, w.longer)) in
    rw (w.same_slot o.0 o.1 ∙ o.2) at m

pub spread_none : {T : ℕ → ℕ → Type 0} (xs : List Content) (q : Queue) → Tidy q → ((m i : ℕ) → T m i → ⊥) → Spread xs T q q
spread_none xs q s none = record {
  grew = record {
    sound = s;
    len = refl;
    longer = omega arith;
    same_slot = λ p h. refl;
    same_link = λ p h. refl;
    among = λ p h k. absurd (omega arith);
  };
  full = λ p h k. absurd (omega arith);
  all = λ m i t. absurd (none m i t);
}

module _ {T U V : ℕ → ℕ → Type 0} (xs : List Content) (q r s : Queue) (first : Spread xs T q r)
    (into : (m i : ℕ) → T m i ⊎ U m i → V m i) where
  grew_then : Grew U r s → Grew V q s
  grew_then w = record {
    sound = w.sound;
    len = w.len ∙ first.grew.len;
    longer = omega (arith, w.longer, first.grew.longer);
    same_slot = λ p h. w.same_slot p (omega (arith, first.grew.longer)) ∙ first.grew.same_slot p h;
    same_link = λ p h. w.same_link p (omega (arith, first.grew.longer)) ∙ first.grew.same_link p h;
    among = λ p h k. elim (cases_lt p r.tail) [
      | inl o ↦ into _ _ (inl (rw (w.same_slot p o, w.same_link p o) (first.grew.among p h o)))
      | inr n ↦ into _ _ (inr (w.among p n k))
    ];
  }

  full_then : Grew U r s → (e : ℕ) → ((p : ℕ) → r.tail ≤ p → p < e → at xs (slot s p) ≡ vacant → ⊥)
      → (p : ℕ) → q.tail ≤ p → p < e → at xs (slot s p) ≡ vacant → ⊥
  full_then w e f p h k = elim (cases_lt p r.tail) [
    | inl o ↦ rw (w.same_slot p o) (first.full p h o)
    | inr n ↦ f p n k
  ]

  pub spread_then : ((m i : ℕ) → V m i → T m i ⊎ U m i) → Spread xs U r s → Spread xs V q s
  spread_then onto w = record {
    grew = grew_then w.grew;
    full = full_then w.grew s.tail w.full;
    all = λ m i v. elim (onto m i v) [
      | inl t ↦ stays_seen r s first.grew.sound w.grew i (first.all m i t)
      | inr u ↦ w.all m i u
    ];
  }

  pub struck_then : (j : ℕ) → Struck xs U r s j → Struck xs V q s j
  struck_then j w = record {
    grew = grew_then w.grew;
    new = omega (arith, w.new, first.grew.longer);
    top = w.top;
    full = full_then w.grew j w.full;
    free = w.free;
  }

-- the same targets under another description
pub grew_as : {T V : ℕ → ℕ → Type 0} (q r : Queue) → ((m i : ℕ) → T m i → V m i) → Grew T q r → Grew V q r
grew_as q r into w = record {
  sound = w.sound;
  len = w.len;
  longer = w.longer;
  same_slot = w.same_slot;
  same_link = w.same_link;
  among = λ p h k. into _ _ (w.among p h k);
}

pub spread_as : {T V : ℕ → ℕ → Type 0} (xs : List Content) (q r : Queue) → ((m i : ℕ) → T m i → V m i) → ((m i : ℕ) → V m i → T m i)
    → Spread xs T q r → Spread xs V q r
spread_as xs q r into onto w = record {
  grew = grew_as q r into w.grew;
  full = w.full;
  all = λ m i v. w.all m i (onto m i v);
}

pub struck_as : {T V : ℕ → ℕ → Type 0} (xs : List Content) (q r : Queue) (j : ℕ) → ((m i : ℕ) → T m i → V m i)
    → Struck xs T q r j → Struck xs V q r j
struck_as xs q r j into w = record {
  grew = grew_as q r into w.grew;
  new = w.new;
  top = w.top;
  full = w.full;
  free = w.free;
}

-- one slot offered
pub spread_one : (xs : List Content) (l i : ℕ) (q r : Queue) → Offered l i q r
    → (q.tail < r.tail → at xs i ≡ vacant → ⊥) → Spread xs (Toward l (λ j. j ≡ i)) q r
spread_one xs l i q r w full = record {
  grew = w.grew;
  full = λ p h k. rw (w.grew.among p h k).1 (full (omega arith));
  all = λ m j t. rw t.1 w.all;
}

-- one slot more of a range
pub range_into : (l a i e : ℕ) → a ≤ i → i < e → (m j : ℕ) → Toward l (Between a i) m j ⊎ Toward l (λ j. j ≡ i) m j → Toward l (Between a e) m j
range_into l a i e h g m j (inl t) = (t.0, (t.1.0, omega (arith, t.1.1)))
range_into l a i e h g m j (inr t) = (t.0, (omega arith, omega arith))

pub range_onto : (l a i : ℕ) → a ≤ i → (m j : ℕ) → Toward l (Between a (i + 1)) m j → Toward l (Between a i) m j ⊎ Toward l (λ j. j ≡ i) m j
range_onto l a i h m j t = elim (cases_lt j i) [
  | inl o ↦ inl (t.0, (t.1.0, o))
  | inr n ↦ inr (t.0, omega (arith, t.1.1))
]

-- one bucket more of the chosen ones, which are read as cs
module _ (l w : ℕ) (bs cs : List ℕ) (is : cs ≡ bs) (n : ℕ) where
  abbrev first : ℕ
  first = get_or cs n 0 * w

  same : first ≡ get_or bs n 0 * w
  same = ap (λ (xs : List ℕ). get_or xs n 0 * w) is

  pub under_into : (e : ℕ) → n < e → (m j : ℕ) → Toward l (InFirst w bs n) m j ⊎ Toward l (Between first (first + w)) m j → Toward l (InFirst w bs e) m j
  under_into e h m j (inl t) = (t.0, (t.1.0, omega (arith, t.1.1), t.1.2, t.1.3))
  under_into e h m j (inr t) = (t.0, (n, h, omega (arith, same, t.1.0), omega (arith, same, t.1.1)))

  pub under_onto : (m j : ℕ) → Toward l (InFirst w bs (n + 1)) m j → Toward l (InFirst w bs n) m j ⊎ Toward l (Between first (first + w)) m j
  under_onto m j t = elim (cases_lt t.1.0 n) [
    | inl o ↦ inl (t.0, (t.1.0, o, t.1.2, t.1.3))
    | inr k ↦ (let e : t.1.0 ≡ n = omega (arith, t.1.1) in
        let f : get_or bs t.1.0 0 * w ≡ first = ap (λ x. get_or bs x 0 * w) e ∙ sym same in
        inr (t.0, (omega (arith, t.1.2), omega (arith, t.1.3))))
  ]
