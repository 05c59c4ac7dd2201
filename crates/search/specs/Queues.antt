-- A queue of slots in three lists: whether a slot was seen, the slot of each entry, and the entry that it was reached from.
use Rattle.std.specs.Prelude.{◌≡◌, ℕ, zero, suc, ◌+◌, ◌^◌, ◌<◌, ◌≤◌, List, length, sum, Some, None, Option, slice_index}

-- the first entries of `at` and `from`, as many as `tail` says, are in use
pub record Queue : Type 0 where
  pub seen : List ℕ
  pub at : List ℕ
  pub from : List ℕ
  pub tail : ℕ

abbrev pub queue : List ℕ → List ℕ → List ℕ → ℕ → Queue
queue s a f t = record { seen = s; at = a; from = f; tail = t }

abbrev pub Seen : Queue → ℕ → Type 0
Seen q i = slice_index q.seen i ≡ 1

abbrev pub slot : Queue → ℕ → ℕ
slot q p = slice_index q.at p

-- 0 for a root, else one more than the entry whose key may go to the slot
abbrev pub link : Queue → ℕ → ℕ
link q p = slice_index q.from p

-- the link to an entry, or to none
abbrev pub link_to : Option ℕ → ℕ
link_to None = 0
link_to (Some p) = p + 1

-- the source that a link stands for: 0 for the roots, else one more than the slot of the entry
abbrev pub source : Queue → ℕ → ℕ
source q zero = 0
source q (suc p) = suc (slot q p)

-- the lists are as long as one another, and the entries are the slots that were seen, each once
pub record Tidy (q : Queue) : Type 0 where
  pub fits : length q.seen < 2 ^ 32
  pub even_at : length q.at ≡ length q.seen
  pub even_from : length q.from ≡ length q.seen
  pub bits : (i : ℕ) → slice_index q.seen i ≤ 1
  pub count : sum q.seen ≡ q.tail
  pub marked : (p : ℕ) → p < q.tail → Seen q (slot q p)
  pub listed : (i : ℕ) → Seen q i → (p : ℕ) × (p < q.tail) × (slot q p ≡ i)
  pub apart : (p r : ℕ) → p < q.tail → r < q.tail → slot q p ≡ slot q r → p ≡ r
  pub back : (p : ℕ) → p < q.tail → link q p ≤ p

-- q became r by new entries, each of which T has, as a link and a slot
pub record Grew (T : ℕ → ℕ → Type 0) (q r : Queue) : Type 0 where
  pub sound : Tidy r
  pub len : length r.seen ≡ length q.seen
  pub longer : q.tail ≤ r.tail
  pub same_slot : (p : ℕ) → p < q.tail → slot r p ≡ slot q p
  pub same_link : (p : ℕ) → p < q.tail → link r p ≡ link q p
  pub among : (p : ℕ) → q.tail ≤ p → p < r.tail → T (link r p) (slot r p)

-- one slot was offered under a link: it is seen now, and new only if it was not seen before
pub record Offered (l i : ℕ) (q r : Queue) : Type 0 where
  pub grew : Grew (λ m j. (m ≡ l) × (j ≡ i)) q r
  pub one : r.tail ≤ q.tail + 1
  pub all : Seen r i

-- a tidy queue with no entry
pub record Fresh (q : Queue) : Type 0 where
  pub tidy : Tidy q
  pub none : q.tail ≡ 0
