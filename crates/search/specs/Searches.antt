-- What the parts of a breadth-first search do to the queue, and what it finds.
use Rattle.std.specs.Prelude.{◌≡◌, ℕ, zero, suc, ◌+◌, ◌*◌, ◌<◌, ◌≤◌, Bool, ◌⊎◌, List, [], ◌∷◌, length, filter, ◌==◌, ◌≢◌, slice_index}
use Rattle.std.specs.List.{range_with_len}
use Rattle.search.specs.Queues.{Queue, Seen, slot, link, source, Tidy, Grew}
use Rattle.search.specs.Scenes.{Scene, Near, Way}
use Rattle.seating.specs.Layouts.{Content, Stash}
use Rattle.seating.specs.Layouts.Content.{vacant}
use Rattle.seating.specs.Paths.{Distinct}
use Rattle.seating.specs.Slots.{at, Occupied}

-- every slot that T has is seen, and the new ones are full
pub record Spread (xs : List Content) (T : ℕ → ℕ → Type 0) (q r : Queue) : Type 0 where
  pub grew : Grew T q r
  pub full : (p : ℕ) → q.tail ≤ p → p < r.tail → at xs (slot r p) ≢ vacant
  pub all : (m i : ℕ) → T m i → Seen r i

-- of the new slots the last is vacant, at the entry j, and only that
pub record Struck (xs : List Content) (T : ℕ → ℕ → Type 0) (q r : Queue) (j : ℕ) : Type 0 where
  pub grew : Grew T q r
  pub new : q.tail ≤ j
  pub top : r.tail ≡ j + 1
  pub full : (p : ℕ) → q.tail ≤ p → p < j → at xs (slot r p) ≢ vacant
  pub free : at xs (slot r j) ≡ vacant

-- under the link l, the slots of P
abbrev pub Toward : ℕ → (ℕ → Type 0) → ℕ → ℕ → Type 0
Toward l P m i = (m ≡ l) × P i

-- slot i is one of those from a to b
abbrev pub Between : ℕ → ℕ → ℕ → Type 0
Between a b i = (a ≤ i) × (i < b)

-- slot i lies in one of the first n of the buckets bs, each of width w
abbrev pub InFirst : ℕ → List ℕ → ℕ → ℕ → Type 0
InFirst w bs n i = (m : ℕ) × (m < n) × (slice_index bs m * w ≤ i) × (i < slice_index bs m * w + w)

-- under each link from a to b, the slots near its source
abbrev pub Level : Scene → (ℕ → Type 0) → Queue → ℕ → ℕ → ℕ → ℕ → Type 0
Level h R q a b m i = (a ≤ m) × (m < b) × Near h R (source q m) i

-- the slots on the way back from a link, last slot first
pub data Trail (q : Queue) : ℕ → List ℕ → Type 0 where
  start : Trail q 0 []
  onward : (p : ℕ) (is : List ℕ) → link q p ≤ p → Trail q (link q p) is → Trail q (suc p) (slot q p ∷ is)

-- is turned round, and then js
abbrev pub onto : List ℕ → List ℕ → List ℕ
onto [] js = js
onto (i ∷ is) js = onto is (i ∷ js)

-- the way back from the entry j is a shortest way from the roots, turned round
pub record Found (h : Scene) (R : ℕ → Type 0) (q : Queue) (j : ℕ) : Type 0 where
  pub sound : Tidy q
  pub low : j < q.tail
  pub walk : List ℕ
  pub trail : Trail q (suc j) walk
  pub way : Way h R 0 (onto walk [])
  pub apart : Distinct (onto walk [])
  pub least : (js : List ℕ) → Way h R 0 js → length (onto walk []) ≤ length js

-- the slots seen are full and shut, so there is no way; each was reached from its link
pub record Exhausted (h : Scene) (R : ℕ → Type 0) (q : Queue) : Type 0 where
  pub sound : Tidy q
  pub full : (i : ℕ) → Seen q i → at h.slots i ≢ vacant
  pub linked : (p : ℕ) → p < q.tail → Near h R (source q (link q p)) (slot q p)
  pub near : (i : ℕ) → R i → Seen q i
  pub shut : (t i : ℕ) → Seen q t → Near h R (suc t) i → Seen q i
  pub none : (js : List ℕ) → Way h R 0 js → ⊥

-- a source is m steps away from the roots' source
abbrev pub Reach : Scene → (ℕ → Type 0) → ℕ → ℕ → Type 0
Reach h R zero v = v ≡ 0
Reach h R (suc m) v = (u : ℕ) × (i : ℕ) × Reach h R m u × Near h R u i × (v ≡ suc i)

-- the links below a are done, and those from a on are the level in hand
pub record Reached (h : Scene) (R : ℕ → Type 0) (q : Queue) (a : ℕ) : Type 0 where
  pub depth : ℕ
  pub sound : Tidy q
  pub low : a ≤ q.tail + 1
  pub full : (p : ℕ) → p < q.tail → at h.slots (slot q p) ≢ vacant
  pub linked : (p : ℕ) → p < q.tail → Near h R (source q (link q p)) (slot q p)
  pub closed : (m i : ℕ) → m < a → Near h R (source q m) i → Seen q i
  pub covered : (m i : ℕ) → m ≤ depth → Reach h R m (suc i) → Seen q i
  pub deep : (l : ℕ) → a ≤ l → l ≤ q.tail → (is : List ℕ) × Trail q l is × (length is ≡ depth)

-- every entry is near its source or belongs to the stash, which is seen; the links below l are done
pub record Flooding (h : Scene) (R : ℕ → Type 0) (q : Queue) (l : ℕ) : Type 0 where
  pub sound : Tidy q
  pub linked : (p : ℕ) → p < q.tail → Near h R (source q (link q p)) (slot q p) ⊎ Stash h.layout (slot q p)
  pub stash : (i : ℕ) → Stash h.layout i → Seen q i
  pub closed : (m i : ℕ) → m < l → Near h R (source q m) i → Seen q i

-- slot i is that of an entry whose link is below l
abbrev pub Before : Queue → ℕ → ℕ → Type 0
Before q l i = (p : ℕ) × (p + 1 < l) × (slot q p ≡ i)

-- slot t of the stash holds a key
pub record Waiting (h : Scene) (t : ℕ) : Type 0 where
  pub stash : Stash h.layout t
  pub held : Occupied h.slots t

-- the slots marked as seen, ascending
abbrev pub marked : List ℕ → ℕ → Bool
marked seen i = slice_index seen i == 1

abbrev pub marked_below : List ℕ → ℕ → List ℕ
marked_below seen n = filter (marked seen) (range_with_len 0 n)

-- no roots
abbrev pub Nowhere : ℕ → Type 0
Nowhere i = ⊥

-- under each entry from a to b, the candidates of the key in its slot
abbrev pub Under : Scene → Queue → ℕ → ℕ → ℕ → ℕ → Type 0
Under h q a b = Level h Nowhere q (a + 1) (b + 1)

-- all entries are roots, and none of them is vacant
pub record Roots (xs : List Content) (q : Queue) : Type 0 where
  pub sound : Tidy q
  pub full : (p : ℕ) → p < q.tail → at xs (slot q p) ≢ vacant
  pub rooted : (p : ℕ) → p < q.tail → link q p ≡ 0

-- what is seen is shut, and each entry that is no root was reached from its link
pub record Closed (h : Scene) (q : Queue) : Type 0 where
  pub sound : Tidy q
  pub linked : (p b : ℕ) → p < q.tail → link q p ≡ suc b → Near h Nowhere (suc (slot q b)) (slot q p)
  pub shut : (t i : ℕ) → Seen q t → Near h Nowhere (suc t) i → Seen q i
