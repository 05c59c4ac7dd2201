-- The blocking set of a key that cannot be seated, computed: the ascending list of its slots.
use Rattle.std.specs.Prelude.{ℕ, zero, suc, ◌/◌, Bool, false, ◌&&◌, ◌||◌, List, [], ◌∷◌, filter, nat_eq, nat_le, nat_lt}
use Rattle.std.specs.List.{range_with_len}
use Rattle.seating.specs.Layouts.{Key, Content, Layout, bucket_slots, slots, Candidate, Stash}
use Rattle.seating.specs.Layouts.Content.{vacant, holding}
use Rattle.seating.specs.Slots.{at, Sits}

-- P holds of one of the numbers
abbrev pub some_of : (ℕ → Bool) → List ℕ → Bool
some_of P [] = false
some_of P (c ∷ cs) = P c || some_of P cs

-- k may take slot i: one of its candidates, or of the stash
abbrev pub allows : Layout → Key → ℕ → Bool
allows L k i = (nat_lt i (bucket_slots L) && some_of (nat_eq (i / L.width)) (L.choices k)) || nat_le (bucket_slots L) i

-- the key that a slot holds may take slot i
abbrev pub goes : Layout → Content → ℕ → Bool
goes L vacant i = false
goes L (holding k v) i = allows L k i

-- the slots in play that pass P, ascending
abbrev pub slots_where : Layout → (ℕ → Bool) → List ℕ
slots_where L P = filter P (range_with_len 0 (slots L))

-- some slots, and those that the keys in them may take
abbrev pub widened : Layout → List Content → List ℕ → List ℕ
widened L xs cs = slots_where L (λ i. some_of (nat_eq i) cs || some_of (λ j. goes L (at xs j) i) cs)

abbrev pub rounds : Layout → List Content → ℕ → List ℕ → List ℕ
rounds L xs zero cs = cs
rounds L xs (suc n) cs = widened L xs (rounds L xs n cs)

-- the slots that k may take, widened as many times as there are slots
abbrev pub blocking : Layout → List Content → Key → List ℕ
blocking L xs k = rounds L xs (slots L) (slots_where L (allows L k))

-- a set with the candidates of k, the stash, and the candidates of each key in it
pub record Blocks (L : Layout) (xs : List Content) (k : Key) (C : ℕ → Type 0) : Type 0 where
  pub near : (i : ℕ) → Candidate L k i → C i
  pub stash : (i : ℕ) → Stash L i → C i
  pub onward : (h : Key) (i j : ℕ) → C i → Sits xs h i → Candidate L h j → C j
