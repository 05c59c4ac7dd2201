-- What carrying out a path does, step by step.
use Rattle.std.proofs.Common.{◌≡◌, ℕ, ◌<◌, ◌≢◌, ◌⊎◌, ◌↔◌, List, [], ◌∷◌, length, set, sym, refl, ◌∙◌, inl, inr, arith}
use mathlib.Core.List.{Memᴰ}
use Rattle.std.proofs.lemmas.List.{get_or-set_other, set_comm, length-set}
use Rattle.seating.specs.Layouts.{Key, Value, Content, Layout, Allowed}
use Rattle.seating.specs.Layouts.Content.{vacant, holding}
use Rattle.seating.specs.Paths.{Path, Distinct, carry}
use Rattle.seating.specs.Paths.Path.{last, next}
use Rattle.seating.specs.Slots.{at, Sits, Held, Stored}
use Rattle.seating.specs.Tables.{Lawful}
use Rattle.seating.specs.Theorems.{CarriedOut}
use Rattle.seating.proofs.Sitting.{not_both, put_stored, stored_put, sits_set, in_slots}

pub path_wider : {May May' : Key → ℕ → Type 0} {xs : List Content} {k : Key} {is : List ℕ}
    → ((k : Key) (i : ℕ) → May k i → May' k i) → Path May xs k is → Path May' xs k is
path_wider w (last m e) = last (w _ _ m) e
path_wider w (next m s r) = next (w _ _ m) s (path_wider w r)

-- a write at a slot off the path leaves it a path, and can be made before or after
pub path_set : {May : Key → ℕ → Type 0} {xs : List Content} {k : Key} {is : List ℕ} (i : ℕ) (c : Content)
    → (Memᴰ i is → ⊥) → Path May xs k is → Path May (set xs i c) k is
path_set {xs = xs} i c off (last {i = j} m e) = last m (get_or-set_other xs i j c vacant (λ s. off (Memᴰ.head (sym s))) ∙ e)
path_set {xs = xs} i c off (next {i = j} m s r) =
    next m (s.0, get_or-set_other xs i j c vacant (λ e. off (Memᴰ.head (sym e))) ∙ s.1) (path_set i c (λ q. off (Memᴰ.tail q)) r)

pub carry_set : (xs : List Content) (i : ℕ) (c : Content) (is : List ℕ) (d : Content)
    → (Memᴰ i is → ⊥) → carry (set xs i c) is d ≡ set (carry xs is d) i c
carry_set xs i c [] d off = refl
carry_set xs i c (j ∷ is) d off =
    let ne : i ≢ j = λ e. off (Memᴰ.head e) in
    let ne' : j ≢ i = λ e. ne (sym e) in
    rw (get_or-set_other xs i j c vacant ne', carry_set xs i c is (at xs j) (λ q. off (Memᴰ.tail q)), set_comm _ i j c d ne)

-- what each step keeps, the whole carry keeps: Good of the table and what is in hand, Done of the table at the end
pub carry_keeps : {May : Key → ℕ → Type 0} (Good : List Content → Key → Value → Type 0) (Done : List Content → Type 0)
    → ((xs : List Content) (k : Key) (v : Value) (i : ℕ) (h : Key) (w : Value)
    → May k i → at xs i ≡ holding h w → Good xs k v → Good (set xs i (holding k v)) h w)
    → ((xs : List Content) (k : Key) (v : Value) (i : ℕ)
    → May k i → at xs i ≡ vacant → Good xs k v → Done (set xs i (holding k v)))
    → (is : List ℕ) {xs : List Content} {k : Key} (v : Value)
    → Path May xs k is → Distinct is → Good xs k v → Done (carry xs is (holding k v))
carry_keeps Good Done step end [] v ch d g = elim ch [ ]
carry_keeps Good Done step end (i ∷ is) {xs} {k} v (last m e) d g = end xs k v i m e g
carry_keeps Good Done step end (i ∷ is) {xs} {k} v (next {h = h} m s r) d g =
    let t = carry_keeps Good Done step end is s.0 (path_set i (holding k v) d.0 r) d.1 (step xs k v i h s.0 m s.1 g) in
    rw s.1 (rw (carry_set xs i (holding k v) is (holding h s.0) d.0) at t)

pub carry_off : (xs : List Content) (is : List ℕ) (c : Content) (j : ℕ) → (Memᴰ j is → ⊥) → at (carry xs is c) j ≡ at xs j
carry_off xs [] c j off = refl
carry_off xs (i ∷ is) c j off =
    get_or-set_other _ i j c vacant (λ e. off (Memᴰ.head e)) ∙ carry_off xs is (at xs i) j (λ q. off (Memᴰ.tail q))

-- a key that was not held is put into an allowed slot, over what was there
module _ (L : Layout) (xs : List Content) (k : Key) (v : Value) (i : ℕ) (law : Lawful L xs) (new : Held xs k → ⊥) (may : Allowed L k i) where
  pub in_table : i < length xs
  in_table = omega (arith, in_slots L k i may, law.whole)

  sits_put : (h : Key) (j : ℕ) → Sits (set xs i (holding k v)) h j → ((j ≡ i) × (h ≡ k)) ⊎ ((j ≢ i) × Sits xs h j)
  sits_put = sits_set xs i k v in_table

  pub put_lawful : Lawful L (set xs i (holding k v))
  put_lawful = record {
    whole = rw length-set law.whole;
    once = λ h a b s t. both h a b (sits_put h a s) (sits_put h b t);
    placed = λ h j s. place h j (sits_put h j s);
  }
    where
      both : (h : Key) (a b : ℕ) → ((a ≡ i) × (h ≡ k)) ⊎ ((a ≢ i) × Sits xs h a) → ((b ≡ i) × (h ≡ k)) ⊎ ((b ≢ i) × Sits xs h b) → a ≡ b
      both h a b (inl s) (inl t) = omega arith
      both h a b (inl s) (inr t) = absurd (new (b, rw s.1 at t.1))
      both h a b (inr s) (inl t) = absurd (new (a, rw t.1 at s.1))
      both h a b (inr s) (inr t) = law.once h a b s.1 t.1

      place : (h : Key) (j : ℕ) → ((j ≡ i) × (h ≡ k)) ⊎ ((j ≢ i) × Sits xs h j) → Allowed L h j
      place h j (inl s) = rw (s.0, s.1) may
      place h j (inr s) = law.placed h j s.1

  pub put_new : (h : Key) → Sits xs h i → Held (set xs i (holding k v)) h → ⊥
  put_new h s (j, t) = elim (sits_put h j t) [ inl q ↦ new (i, rw q.1 at s) | inr q ↦ q.0 (law.once h j i q.1 s) ]

-- the table while a path is carried out, with k and v in hand: lawful, and with the hand it holds what P says
record Between (L : Layout) (P : Key → Value → Type 0) (xs : List Content) (k : Key) (v : Value) : Type 0 where
  law : Lawful L xs
  new : Held xs k → ⊥
  same : (h : Key) (u : Value) → (Stored xs h u ⊎ (holding k v ≡ holding h u)) ↔ P h u

record After (L : Layout) (P : Key → Value → Type 0) (xs : List Content) : Type 0 where
  law : Lawful L xs
  same : (h : Key) (u : Value) → Stored xs h u ↔ P h u

pub carried_out_lem : CarriedOut
carried_out_lem L xs k v is law new ch d = (r.law, r.same, carry_off xs is (holding k v))
  where
    P : Key → Value → Type 0
    P h u = Stored xs h u ⊎ (holding k v ≡ holding h u)

    step : (xs : List Content) (k : Key) (v : Value) (i : ℕ) (h : Key) (w : Value)
        → Allowed L k i → at xs i ≡ holding h w → Between L P xs k v → Between L P (set xs i (holding k v)) h w
    step xs k v i h w m e b =
        let l = in_table L xs k v i b.law b.new m in
        record {
          law = put_lawful L xs k v i b.law b.new m;
          new = put_new L xs k v i b.law b.new m h (w, e);
          same = λ g u. (
            λ s. (b.same g u).0 (put_stored xs i (holding k v) l g u (rw e s)),
            λ p. rw e at (stored_put xs i (holding k v) l g u ((b.same g u).1 p)),
          );
        }

    end : (xs : List Content) (k : Key) (v : Value) (i : ℕ)
        → Allowed L k i → at xs i ≡ vacant → Between L P xs k v → After L P (set xs i (holding k v))
    end xs k v i m e b =
        let l = in_table L xs k v i b.law b.new m in
        record {
          law = put_lawful L xs k v i b.law b.new m;
          same = λ g u. (
            λ s. (b.same g u).0 (put_stored xs i (holding k v) l g u (inl s)),
            λ p. only g u (rw e at (stored_put xs i (holding k v) l g u ((b.same g u).1 p))),
          );
        }
      where
        only : (g : Key) (u : Value) → Stored (set xs i (holding k v)) g u ⊎ (vacant ≡ holding g u) → Stored (set xs i (holding k v)) g u
        only g u (inl s) = s
        only g u (inr q) = absurd (not_both vacant g u refl q)

    r : After L P (carry xs is (holding k v))
    r = carry_keeps (Between L P) (After L P) step end is v ch d (record { law = law; new = new; same = λ h u. (λ p. p, λ p. p) })
