-- One slot more in a queue.
use Rattle.std.proofs.Common.{◌≡◌, ℕ, ◌+◌, ◌<◌, ◌≤◌, ◌≢◌, ◌⊎◌, List, length, get_or, set, sum, sym, ap, subst, ◌∙◌, inl, inr, arith}
use Rattle.std.proofs.lemmas.List.{get_or-set_same, get_or-set_other, length-set}
use Rattle.std.proofs.lemmas.List.Sums.{sum_by-set}
use Rattle.std.proofs.ByRecursion.{sum_by_le, All-from_get_or}
use Rattle.std.proofs.lemmas.Bool.{cases_eq, cases_lt}
use Rattle.search.specs.Queues.{Queue, queue, Seen, slot, link, Tidy, Offered}

-- what a list reads after one write
pub read_set : (xs : List ℕ) (i a j : ℕ) → i < length xs
    → ((j ≡ i) × (get_or (set xs i a) j 0 ≡ a)) ⊎ ((j ≢ i) × (get_or (set xs i a) j 0 ≡ get_or xs j 0))
read_set xs i a j h = elim (cases_eq j i) [
  | inl e ↦ inl (e, rw (e, get_or-set_same xs i a 0 h))
  | inr n ↦ inr (n, get_or-set_other xs i j a 0 n)
]

module _ (q : Queue) (s : Tidy q) (l i : ℕ) (low : i < length q.seen) (new : get_or q.seen i 0 ≡ 0) (le : l ≤ q.tail) where
  marks : List ℕ
  marks = set q.seen i 1

  abbrev pub after : Queue
  after = queue (set q.seen i 1) (set q.at q.tail i) (set q.from q.tail l) (q.tail + 1)

  bits' : (j : ℕ) → get_or (set q.seen i 1) j 0 ≤ 1
  bits' j = elim (read_set q.seen i 1 j low) [ inl e ↦ omega arith | inr e ↦ omega (arith, s.bits j) ]

  total : sum (set q.seen i 1) ≡ q.tail + 1
  total = omega (arith, sum_by-set (λ x. x) q.seen i 1 0 low, s.count)

  pub room : q.tail < length q.seen
  room = omega (arith, total, sum_by_le (λ x. x) 1 (set q.seen i 1) (All-from_get_or (λ x. x ≤ 1) _ 0 (λ j h. bits' j)), length-set q.seen i 1)

  at_room : q.tail < length q.at
  at_room = omega (arith, room, s.even_at)

  from_room : q.tail < length q.from
  from_room = omega (arith, room, s.even_from)

  old_slot : (p : ℕ) → p < q.tail → slot after p ≡ slot q p
  old_slot p h = get_or-set_other q.at q.tail p i 0 (omega arith)

  old_link : (p : ℕ) → p < q.tail → link after p ≡ link q p
  old_link p h = get_or-set_other q.from q.tail p l 0 (omega arith)

  new_slot : slot after q.tail ≡ i
  new_slot = get_or-set_same q.at q.tail i 0 at_room

  new_link : link after q.tail ≡ l
  new_link = get_or-set_same q.from q.tail l 0 from_room

  place : (p : ℕ) → p < q.tail + 1 → (p < q.tail) ⊎ (p ≡ q.tail)
  place p h = elim (cases_lt p q.tail) [ inl a ↦ inl a | inr b ↦ inr (omega arith) ]

  seen_here : Seen after i
  seen_here = get_or-set_same q.seen i 1 0 low

  seen_old : (j : ℕ) → Seen q j → Seen after j
  seen_old j h = elim (read_set q.seen i 1 j low) [ inl e ↦ e.1 | inr e ↦ e.1 ∙ h ]

  -- the new slot is the slot of no older entry
  fresh : (p : ℕ) → p < q.tail → slot q p ≡ i → ⊥
  fresh p h e = omega (arith, (rw e at (s.marked p h)), new)

  sound' : Tidy after
  sound' = record {
    fits = rw length-set s.fits;
    even_at = length-set _ _ _ ∙ s.even_at ∙ sym (length-set _ _ _);
    even_from = length-set _ _ _ ∙ s.even_from ∙ sym (length-set _ _ _);
    bits = bits';
    count = total;
    marked = λ p h. elim (place p h) [
      | inl o ↦ rw (old_slot p o) (seen_old _ (s.marked p o))
      | inr e ↦ rw (e, new_slot) seen_here
    ];
    listed = λ j h. elim (read_set q.seen i 1 j low) [
      | inl e ↦ (q.tail, omega arith, new_slot ∙ sym e.0)
      | inr e ↦ (let o = s.listed j (sym e.1 ∙ h) in (o.0, omega (arith, o.1), old_slot _ o.1 ∙ o.2))
    ];
    apart = λ p r h k e. elim (place p h) [
      | inl a ↦ elim (place r k) [
        | inl b ↦ s.apart p r a b (sym (old_slot p a) ∙ e ∙ old_slot r b)
        | inr b ↦ absurd (fresh p a (sym (old_slot p a) ∙ e ∙ ap (slot after) b ∙ new_slot))
      ]
      | inr a ↦ elim (place r k) [
        | inl b ↦ absurd (fresh r b (sym (old_slot r b) ∙ sym e ∙ ap (slot after) a ∙ new_slot))
        | inr b ↦ a ∙ sym b
      ]
    ];
    back = λ p h. elim (place p h) [
      | inl o ↦ rw (old_link p o) (s.back p o)
      | inr e ↦ rw (e, new_link) le
    ];
  }

  pub offered_new : Offered l i q after
  offered_new = record {
    grew = record {
      sound = sound';
      len = length-set _ _ _;
      longer = omega arith;
      same_slot = old_slot;
      same_link = old_link;
      among = λ p h k. let e : p ≡ q.tail = omega arith in (ap (link after) e ∙ new_link, ap (slot after) e ∙ new_slot);
    };
    one = omega arith;
    all = seen_here;
  }

pub tail_le : (q : Queue) → Tidy q → q.tail ≤ length q.seen
tail_le q s = omega (arith, s.count, sum_by_le (λ x. x) 1 q.seen (All-from_get_or (λ x. x ≤ 1) _ 0 (λ j h. s.bits j)))

-- the entries of a queue that is seen as v fit its rows
pub entries_fit : {s a f : List ℕ} {t : ℕ} (v : Queue) → queue s a f t ≡ v → Tidy (queue s a f t) → v.tail ≤ length s
entries_fit v e s = omega (arith, ap (λ (q : Queue). q.tail) e, tail_le _ s)

-- there is room for slot i, but if it was seen
pub room_left : {a f : List ℕ} {t : ℕ} {v : Queue} (s : List ℕ) (i : ℕ) → queue s a f t ≡ v → Tidy (queue s a f t) → i < length v.seen → t < get_or s i 0 + length s
room_left s i e tidy low =
    let here : i < length s = omega (arith, ap (λ (q : Queue). length q.seen) e) in
    elim (cases_eq (get_or s i 0) 0) [
      | inl new ↦ omega (arith, room _ tidy 0 i here new (omega arith))
      | inr seen ↦ omega (arith, tail_le _ tidy)
    ]

-- one slot more of a queue that is seen as v
module _ (q v : Queue) (l i : ℕ) (e : q ≡ v) (s : Tidy q) (low : i < length v.seen) (new : get_or q.seen i 0 ≡ 0) (le : l ≤ v.tail) where
  here : i < length q.seen
  here = omega (arith, ap (λ (q : Queue). length q.seen) e)

  back : l ≤ q.tail
  back = omega (arith, ap (λ (q : Queue). q.tail) e)

  -- w is the word that the link was written as
  pub offered_for : (w : ℕ) → w ≡ l → Offered l i v (queue (set q.seen i 1) (set q.at q.tail i) (set q.from q.tail w) (q.tail + 1))
  offered_for w is = rw is (subst (λ v. Offered l i v (queue (set q.seen i 1) (set q.at q.tail i) (set q.from q.tail l) (q.tail + 1))) e (offered_new q s l i here new back))
