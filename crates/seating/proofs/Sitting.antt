-- Who sits where, and what is held, after a slot was filled or emptied.
use Rattle.std.proofs.Common.{◌≡◌, ℕ, ◌<◌, ◌≢◌, ◌⊎◌, List, length, set, sym, refl, ◌∙◌, inl, inr, arith}
use Rattle.std.proofs.lemmas.List.{get_or-set_same, get_or-set_other, length-set}
use Rattle.std.proofs.lemmas.Bool.{cases_eq}
use Rattle.seating.specs.Layouts.{Key, Value, Content, Layout, slots, Allowed}
use Rattle.seating.specs.Layouts.Content.{vacant, holding}
use Rattle.seating.specs.Slots.{at, Sits, Stored, Occupied}
use Rattle.seating.specs.Tables.{Lawful}

pub not_both : (c : Content) (k : Key) (v : Value) → c ≡ vacant → c ≡ holding k v → ⊥
not_both c k v p q = let z : ◌≡◌ {A = ℕ} 0 1 = cc in omega arith

pub content : (c : Content) → (c ≡ vacant) ⊎ ((k : Key) × ((v : Value) × (c ≡ holding k v)))
content vacant = inl refl
content (holding k v) = inr (k, (v, refl))

pub occupied : (xs : List Content) (i : ℕ) → (at xs i ≡ vacant → ⊥) → Occupied xs i
occupied xs i n = elim (content (at xs i)) [ inl e ↦ absurd (n e) | inr o ↦ o ]

module _ (xs : List Content) (i : ℕ) (c : Content) (in' : i < length xs) where
  -- what the slots hold, with what is in hand, stays as c is put down and what was there is taken
  pub put_stored : (h : Key) (u : Value) → Stored (set xs i c) h u ⊎ (at xs i ≡ holding h u) → Stored xs h u ⊎ (c ≡ holding h u)
  put_stored h u (inl (j, e)) = elim (cases_eq j i) [
    | inl q ↦ inr (sym (get_or-set_same xs i c vacant in') ∙ (rw q at e))
    | inr n ↦ inl (j, sym (get_or-set_other xs i j c vacant n) ∙ e)
  ]
  put_stored h u (inr e) = inl (i, e)

  pub stored_put : (h : Key) (u : Value) → Stored xs h u ⊎ (c ≡ holding h u) → Stored (set xs i c) h u ⊎ (at xs i ≡ holding h u)
  stored_put h u (inl (j, e)) = elim (cases_eq j i) [
    | inl q ↦ inr (rw q at e)
    | inr n ↦ inl (j, get_or-set_other xs i j c vacant n ∙ e)
  ]
  stored_put h u (inr e) = inl (i, get_or-set_same xs i c vacant in' ∙ e)

-- who sits where after a key was put down, or a slot vacated
pub sits_set : (xs : List Content) (i : ℕ) (k : Key) (v : Value) → i < length xs
    → (h : Key) (j : ℕ) → Sits (set xs i (holding k v)) h j → ((j ≡ i) × (h ≡ k)) ⊎ ((j ≢ i) × Sits xs h j)
sits_set xs i k v in' h j (u, e) = elim (cases_eq j i) [
  | inl q ↦ (let f : at (set xs i (holding k v)) i ≡ holding h u = rw q at e in
      inl (q, cc (get_or-set_same xs i (holding k v) vacant in')))
  | inr n ↦ inr (n, (u, sym (get_or-set_other xs i j (holding k v) vacant n) ∙ e))
]

pub sits_vacated : (xs : List Content) (i : ℕ) → i < length xs → (h : Key) (j : ℕ) → Sits (set xs i vacant) h j → (j ≢ i) × Sits xs h j
sits_vacated xs i in' h j (u, e) = elim (cases_eq j i) [
  | inl q ↦ absurd (not_both _ h u (get_or-set_same xs i vacant vacant in') (rw q at e))
  | inr n ↦ (n, (u, sym (get_or-set_other xs i j vacant vacant n) ∙ e))
]

pub in_slots : (L : Layout) (k : Key) (i : ℕ) → Allowed L k i → i < slots L
in_slots L k i (inl c) = omega arith
in_slots L k i (inr s) = s.1

pub sits_low : (L : Layout) (xs : List Content) → Lawful L xs → (k : Key) (i : ℕ) → Sits xs k i → i < length xs
sits_low L xs law k i s = omega (arith, in_slots L k i (law.placed k i s), law.whole)

pub vacated_lawful : (L : Layout) (xs : List Content) (i : ℕ) → i < length xs → Lawful L xs → Lawful L (set xs i vacant)
vacated_lawful L xs i in' law = record {
  whole = rw length-set law.whole;
  once = λ h a b s t. law.once h a b (sits_vacated xs i in' h a s).1 (sits_vacated xs i in' h b t).1;
  placed = λ h a s. law.placed h a (sits_vacated xs i in' h a s).1;
}
