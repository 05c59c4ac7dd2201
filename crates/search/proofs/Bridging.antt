-- What a search finds, told of cuckoo paths and blocking sets.
use Rattle.std.proofs.Common.{◌≡◌, ℕ, zero, suc, ◌+◌, ◌*◌, ◌<◌, ◌≤◌, ◌⊎◌, List, [], ◌∷◌, length, get_or, set, refl, ap, ◌∙◌, inl, inr, arith}
use Rattle.std.proofs.lemmas.Bool.{eqb-true, eq-eqb}
use Rattle.search.specs.Queues.{Queue, Seen, slot, link, source, Tidy}
use Rattle.search.specs.Scenes.{Scene, Near, Way}
use Rattle.search.specs.Scenes.Way.{last, next}
use Rattle.search.specs.Searches.{InFirst, onto, Found, Exhausted, Flooding, Waiting, marked, marked_below}
use Rattle.seating.specs.Blocking.{blocking}
use Rattle.seating.specs.Laws.{Sized}
use Rattle.seating.specs.Layouts.{Key, Value, Content, Layout, slots, Candidate, Stash}
use Rattle.seating.specs.Layouts.Content.{vacant, holding}
use Rattle.seating.specs.Paths.{CuckooPath, Pathless, Shortest, Nearest, carry}
use Rattle.seating.specs.Paths.Path.{last as ends, next as goes}
use Rattle.seating.specs.Slots.{at, Sits}
use Rattle.seating.specs.Steps.{Pathed, Rested, Refilled}
use Rattle.seating.specs.Tables.{Settled}
use Rattle.search.proofs.Breadth.{length_onto}
use Rattle.seating.proofs.Blockings.{Reach, reach_low, blocking_reached, blocking_least_lem}
use Rattle.seating.proofs.Blockings.Reach.{start, onward}
use Rattle.seating.proofs.Buckets.{candidates}
use Rattle.seating.proofs.Listing.{ascending_same, listed_in, in_listed, listed_ascends}
use Rattle.seating.proofs.Pigeons.{place, member}
use Rattle.seating.proofs.Sitting.{not_both}

-- the slots of the chosen buckets, by place, are the candidates
pub into_candidate : (L : Layout) → Sized L → (k : Key) (i : ℕ) → InFirst L.width (L.choices k) (length (L.choices k)) i → Candidate L k i
into_candidate L sized k i (m, l, a, b) = (candidates L sized k i).1 (get_or (L.choices k) m 0, member (L.choices k) 0 m l, (a, b))

pub from_candidate : (L : Layout) → Sized L → (k : Key) (i : ℕ) → Candidate L k i → InFirst L.width (L.choices k) (length (L.choices k)) i
from_candidate L sized k i c =
    let (b, m, (lo, hi)) = (candidates L sized k i).0 c in
    let (j, l, e) = place m in
    let f : b * L.width ≡ get_or (L.choices k) j 0 * L.width = ap (λ x. x * L.width) e in
    (j, l, omega arith, omega arith)

pub same_holder : (c : Content) (k h : Key) (v u : Value) → c ≡ holding k v → c ≡ holding h u → k ≡ h
same_holder c k h v u a b = cc

module _ (h : Scene) (R : ℕ → Type 0) where
  -- the key at the first slot of a way that goes on
  held_at : (t : ℕ) (is : List ℕ) → Way h R (suc t) is → (k : Key) × ((v : Value) × (at h.slots t ≡ holding k v))
  held_at t is (last n e) = (n.0, (n.1, n.2))
  held_at t is (next n w) = (n.0, (n.1, n.2))

  to_path : (k : Key) {u : ℕ} (is : List ℕ) → ((i : ℕ) → Near h R u i → Candidate h.layout k i) → Way h R u is → CuckooPath h.layout h.slots k is
  to_path k is near (last {i = i} n e) = ends (near i n) e
  to_path k is near (next {i = i} {is = js} n w) =
      let (g, (v, e)) = held_at i js w in
      goes (near i n) (v, e) (to_path g js (λ j c. rw (same_holder _ _ _ _ _ c.2 e) at c.3) w)

  from_path : {k : Key} {u : ℕ} {is : List ℕ} → ((i : ℕ) → Candidate h.layout k i → Near h R u i) → CuckooPath h.layout h.slots k is → Way h R u is
  from_path near (ends {i = i} m e) = last (near i m) e
  from_path near (goes {h = g} {i = i} m s r) = next (near i m) (from_path (λ j c. (g, s.0, s.1, c)) r)

-- for a new key the roots are its candidates
module _ (h : Scene) (k : Key) where
  pub found_shortest : (q : Queue) (j : ℕ) (f : Found h (Candidate h.layout k) q j) → Shortest h.layout h.slots k (onto f.walk [])
  found_shortest q j f = record {
    path = to_path h (Candidate h.layout k) k _ (λ i n. n) f.way;
    least = λ js p. f.least js (from_path h (Candidate h.layout k) (λ i c. c) p);
  }

  pub exhausted_pathless : (q : Queue) → Exhausted h (Candidate h.layout k) q → Pathless h.layout h.slots k
  exhausted_pathless q x is p = x.none is (from_path h (Candidate h.layout k) (λ i c. c) p)

-- after a drop the roots are the held slots of the stash
pub record Nearby (h : Scene) (is : List ℕ) : Type 0 where
  pub slot : ℕ
  pub key : Key
  pub value : Value
  pub way : List ℕ
  pub whole : is ≡ slot ∷ way
  pub nearest : Nearest h.layout h.slots slot key value way

from_stash : (h : Scene) (g : Key) (t : ℕ) (js : List ℕ) → Stash h.layout t → Sits h.slots g t → CuckooPath h.layout h.slots g js
    → Way h (Waiting h) 0 (t ∷ js)
from_stash h g t js st s p = next (record { stash = st; held = (g, s) }) (from_path h (Waiting h) (λ i c. (g, s.0, s.1, c)) p)

pub found_nearest : (h : Scene) (q : Queue) (j : ℕ) (f : Found h (Waiting h) q j) → Nearby h (onto f.walk [])
found_nearest h q j f = go (onto f.walk []) f.way f.least
  where
    go : (is : List ℕ) → Way h (Waiting h) 0 is → ((js : List ℕ) → Way h (Waiting h) 0 js → length is ≤ length js) → Nearby h is
    go is (last {i = i} n e) least = absurd (let o = n.held in not_both _ o.0 o.1.0 e o.1.1)
    go is (next {i = t} {is = way} n w) least =
        let (g, (v, e)) = held_at h (Waiting h) t way w in record {
          slot = t;
          key = g;
          value = v;
          way = way;
          whole = refl;
          nearest = record {
            stash = n.stash;
            here = e;
            path = to_path h (Waiting h) g way (λ i c. rw (same_holder _ _ _ _ _ c.2 e) at c.3) w;
            least = λ g' s js st si p. (let l = least (s ∷ js) (from_stash h g' s js st si p) in omega arith);
          };
        }

pub exhausted_settled : (h : Scene) (q : Queue) → Exhausted h (Waiting h) q → Settled h.layout h.slots
exhausted_settled h q x g t st s is p = x.none (t ∷ is) (from_stash h g t is st s p)

-- each entry was reached
module _ (h : Scene) (k : Key) (q : Queue) (tidy : Tidy q) where
  abbrev reach : ℕ → Type 0
  reach i = Reach h.layout h.slots k i

  module _ (R : ℕ → Type 0) (root : (i : ℕ) → R i → reach i) (linked : (p : ℕ) → p < q.tail → Near h R (source q (link q p)) (slot q p) ⊎ Stash h.layout (slot q p)) where
    comes : (l i : ℕ) → ((p : ℕ) → l ≡ suc p → reach (slot q p)) → Near h R (source q l) i → reach i
    comes zero i r n = root i n
    comes (suc p) i r n = onward (r p refl) (n.1, n.2) (inl n.3)

    entry_reached : (m p : ℕ) → p < m → p < q.tail → reach (slot q p)
    entry_reached zero p l g = absurd (omega arith)
    entry_reached (suc m) p l g = elim (linked p g) [
      | inl n ↦ comes (link q p) (slot q p) (λ b e. entry_reached m b (omega (arith, tidy.back p g, e)) (omega (arith, tidy.back p g, e))) n
      | inr b ↦ start (inr b)
    ]

    seen_reached : (i : ℕ) → Seen q i → reach i
    seen_reached i s = let (p, l, e) = tidy.listed i s in rw e at (entry_reached (suc p) p (omega arith) l)

-- what was flooded from a search without a way is the blocking set
module _ (h : Scene) (k : Key) (q r : Queue) (x : Exhausted h (Candidate h.layout k) q)
    (f : Flooding h (Seen q) r (r.tail + 1)) where
  before : (i : ℕ) → Seen q i → Reach h.layout h.slots k i
  before = seen_reached h k q x.sound (Candidate h.layout k) (λ i c. start (inl c)) (λ p l. inl (x.linked p l))

  after : (i : ℕ) → Seen r i → Reach h.layout h.slots k i
  after = seen_reached h k r f.sound (Seen q) before f.linked

  reached_seen : (i : ℕ) → Reach h.layout h.slots k i → Seen r i
  reached_seen i (start (inl c)) = f.closed 0 i (omega arith) (x.near i c)
  reached_seen i (start (inr s)) = f.stash i s
  reached_seen i (onward r s (inr t)) = f.stash i t
  reached_seen i (onward {h = g} {i = j} r s (inl c)) =
      let (p, l, e) = f.sound.listed j (reached_seen j r) in
      f.closed (suc p) i (omega arith) (g, s.0, rw e s.1, c)

  pub flooded_blocking : marked_below r.seen (slots h.layout) ≡ blocking h.layout h.slots k
  flooded_blocking = ascending_same (marked_below r.seen (slots h.layout)) (blocking h.layout h.slots k)
      (listed_ascends (marked r.seen) 0 (slots h.layout)) (blocking_least_lem h.layout h.slots k).ascends
      (λ i m. (blocking_reached h.layout h.slots k i).1 (after i (eqb-true _ _ (listed_in (marked r.seen) 0 (slots h.layout) i m).2)))
      (λ i m. let e = (blocking_reached h.layout h.slots k i).0 m in
      in_listed (marked r.seen) 0 (slots h.layout) i (omega arith) (omega (arith, reach_low h.layout h.slots k i e)) (eq-eqb _ _ (reached_seen i e)))

-- a way that was found and carried out
pub pathed_by : (h : Scene) (k : Key) (v : Value) (q : Queue) (j m : ℕ) (ys : List Content) (f : Found h (Candidate h.layout k) q j)
    → ys ≡ carry h.slots (onto f.walk []) (holding k v) → m + 1 ≡ length f.walk → Pathed h.layout h.slots k v m ys
pathed_by h k v q j m ys f e n = record
    { way = onto f.walk []; shortest = found_shortest h k q j f; moves = omega (arith, length_onto f.walk []); after = e }

pub refilled_by : (h : Scene) (q : Queue) (j m : ℕ) (ys : List Content) (f : Found h (Waiting h) q j)
    → ys ≡ carry h.slots (onto f.walk []) vacant → m + 1 ≡ length f.walk → Refilled h.layout h.slots m ys
refilled_by h q j m ys f e n =
    let b = found_nearest h q j f in record {
      slot = b.slot;
      key = b.key;
      value = b.value;
      way = b.way;
      nearest = b.nearest;
      moves = omega (arith, length_onto f.walk [], ap length b.whole);
      after = e ∙ ap (λ is. carry h.slots is vacant) b.whole ∙ ap (λ c. set (carry h.slots b.way c) b.slot vacant) b.nearest.here;
    }

pub rested_by : (h : Scene) (q : Queue) → Exhausted h (Waiting h) q → Rested h.layout h.slots 0 h.slots
rested_by h q x = record { settled = exhausted_settled h q x; moves = refl; after = refl }
