-- What placing a key answers.
use Rattle.std.specs.Prelude.{◌≡◌, ℕ, List, Ok, Err, Result}
use Rattle.seating.specs.Layouts.{Key}
use Rattle.keys.specs.declared.refusal.Refusal.{Refusal}
use Rattle.places.specs.Choices.{listed}
use Rattle.places.specs.Words.{fnv}
use Rattle.placing.specs.declared.placed.Placed.{Placed}

-- what was read is placed: the key, with its word and its choices, or the refusal
abbrev pub PlacedBy : {K : Type 0} → (K → Key) → (Key → List ℕ) → ℕ → Result Key Refusal → Result (Placed K) Refusal → Type 0
PlacedBy bytes places z k (Ok p) = (k ≡ Ok (bytes p.key)) × (p.word ≡ fnv z (bytes p.key)) × (listed p.choices ≡ places (bytes p.key))
PlacedBy bytes places z k (Err e) = k ≡ Err e
