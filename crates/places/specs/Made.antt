-- What making a rule answers.
use Rattle.std.specs.Prelude.{◌≡◌, ℕ, List, Ok, Err, Result}
use Rattle.seating.specs.Layouts.{Key}
use Rattle.keys.specs.declared.refusal.Refusal.{Refusal}
use Rattle.keys.specs.declared.refusal.Refusal.TheVariants.{Size}
use Rattle.places.specs.Words.{fnv}

-- made exactly under a condition, and else refused for the size
abbrev pub MadeUnder : {R : Type 0} → Type 0 → (R → Type 0) → Result R Refusal → Type 0
MadeUnder P Q (Ok r) = P × Q r
MadeUnder P Q (Err e) = (P → ⊥) × (e ≡ Size)

-- a rule with n buckets, that chooses from the word under seed z
pub record ChoosesBy {R : Type 0} (count : R → ℕ) (places : R → Key → List ℕ) (choices : ℕ → ℕ → List ℕ) (n z : ℕ) (r : R) : Type 0 where
  pub sized : count r ≡ n
  pub chosen : (k : Key) → places r k ≡ choices n (fnv z k)
