-- The map read off the slots, and the slot of a key, against who sits where.
use Rattle.std.proofs.Common.{◌≡◌, ℕ, zero, suc, ◌⊎◌, List, [], ◌∷◌, Some, None, Option, refl, ap, inl, inr, arith}
use Rattle.std.specs.Str.{bytes_eq}
use Rattle.std.proofs.lemmas.Slice.Eq.{bytes_eq-Decides}
use Rattle.std.proofs.lemmas.Bool.{cases_Bool, both_ways}
use Rattle.seating.specs.Assignments.{Seats}
use Rattle.seating.specs.Layouts.{Key, Value, Content, Layout}
use Rattle.seating.specs.Layouts.Content.{vacant, holding}
use Rattle.seating.specs.Slots.{at, Sits, Held, Stored, value_at, value_of, slot_of}
use Rattle.seating.specs.Tables.{Lawful}
use Rattle.seating.proofs.Sitting.{not_both}

pub same_key : (h k : Key) → (h ≡ k) ⊎ (h ≡ k → ⊥)
same_key h k = let d = bytes_eq-Decides h k in elim (cases_Bool (bytes_eq h k))
    [ inl e ↦ inl (d.0 e) | inr e ↦ inr (λ q. both_ways _ e (d.1 q)) ]

-- what a slot has for a key, either way
abbrev pub HasOrNot : Key → Content → Type 0
HasOrNot k c =
    ((v : Value) × (c ≡ holding k v) × (value_at k c ≡ Some v)) ⊎ (((v : Value) → c ≡ holding k v → ⊥) × (value_at k c ≡ None))

pub has_or_not : (k : Key) (c : Content) → HasOrNot k c
has_or_not k vacant = inr (λ v e. not_both _ k v refl e, refl)
has_or_not k (holding h u) = let d = bytes_eq-Decides h k in elim (cases_Bool (bytes_eq h k)) [
  | inl e ↦ inl (u, ap (λ x. holding x u) (d.0 e), rw e refl)
  | inr e ↦ inr (λ v q. both_ways _ e (d.1 (cc)), rw e refl)
]

-- a key that is not in the first slot sits behind it
behind : (xs : List Content) (k : Key) (c : Content) → ((v : Value) → c ≡ holding k v → ⊥) → (i : ℕ) → Sits (c ∷ xs) k i → Held xs k
behind xs k c n zero (u, e) = absurd (n u e)
behind xs k c n (suc i) s = (i, s)

-- the slot of a key that sits anywhere holds it
pub slot_sits : (xs : List Content) (k : Key) (i : ℕ) → Sits xs k i → Sits xs k (slot_of xs k)
slot_sits [] k i (u, e) = absurd (not_both _ k u refl e)
slot_sits (c ∷ xs) k i s = elim (has_or_not k c) [
  | inl (v, e, f) ↦ rw f (v, e)
  | inr (n, f) ↦ rw f (let (j, t) = behind xs k c n i s in slot_sits xs k j t)
]

pub slot_is : (L : Layout) (xs : List Content) → Lawful L xs → (k : Key) (i : ℕ) → Sits xs k i → slot_of xs k ≡ i
slot_is L xs law k i s = law.once k (slot_of xs k) i (slot_sits xs k i s) s

-- the map has a value for a key exactly if it is stored
pub value_stored : (xs : List Content) (k : Key) (v : Value) → value_of xs k ≡ Some v → Stored xs k v
value_stored [] k v e = absurd (let z : ◌≡◌ {A = ℕ} 0 1 = cc in omega arith)
value_stored (c ∷ xs) k v e = elim (has_or_not k c) [
  | inl (u, p, f) ↦ (let q : Some u ≡ Some v = rw f at e in let w : u ≡ v = cc in (0, rw w at p))
  | inr (n, f) ↦ (let q : value_of xs k ≡ Some v = rw f at e in let r = value_stored xs k v q in (suc r.0, r.1))
]

pub value_none : (xs : List Content) (k : Key) → value_of xs k ≡ None → (i : ℕ) → Sits xs k i → ⊥
value_none [] k e i (u, p) = not_both _ k u refl p
value_none (c ∷ xs) k e i s = elim (has_or_not k c) [
  | inl (u, p, f) ↦ (let q : Some u ≡ None = rw f at e in let z : ◌≡◌ {A = ℕ} 0 1 = cc in omega arith)
  | inr (n, f) ↦ (let (j, t) = behind xs k c n i s in value_none xs k (rw f at e) j t)
]

pub option : {A : Type 0} (o : Option A) → (o ≡ None) ⊎ ((x : A) × (o ≡ Some x))
option None = inl refl
option (Some x) = inr (x, refl)

pub stored_value : (L : Layout) (xs : List Content) → Lawful L xs → (k : Key) (v : Value) → Stored xs k v → value_of xs k ≡ Some v
stored_value L xs law k v (i, e) = elim (option (value_of xs k)) [
  | inl q ↦ absurd (value_none xs k q i (v, e))
  | inr (u, q) ↦ (let r = value_stored xs k u q in
      let j : r.0 ≡ i = law.once k r.0 i (u, r.1) (v, e) in
      let f : at xs i ≡ holding k u = rw j at r.1 in
      let w : u ≡ v = cc in rw w at q)
]

pub absent_value : (xs : List Content) (k : Key) → (Held xs k → ⊥) → value_of xs k ≡ None
absent_value xs k n = elim (option (value_of xs k))
    [ inl q ↦ q | inr (u, q) ↦ absurd (let r = value_stored xs k u q in n (r.0, (u, r.1))) ]

-- lawful slots are an assignment of their keys
pub table_seats : (L : Layout) (xs : List Content) → Lawful L xs → Seats L (Held xs) (slot_of xs)
table_seats L xs law = record {
  allowed = λ k h. law.placed k (slot_of xs k) (slot_sits xs k h.0 h.1);
  apart = λ j k a b e.
      (let p = slot_sits xs j a.0 a.1 in let q = slot_sits xs k b.0 b.1 in cc (p.1, q.1, ap (at xs) e));
}

-- an assignment of some keys is one of fewer
pub fewer : (L : Layout) (K K' : Key → Type 0) (f : Key → ℕ) → ((k : Key) → K' k → K k) → Seats L K f → Seats L K' f
fewer L K K' f h s = record { allowed = λ k p. s.allowed k (h k p); apart = λ j k p q. s.apart j k (h j p) (h k q) }
