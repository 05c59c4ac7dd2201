-- What a line that should be a key answers.
use Rattle.std.specs.Prelude.{◌≡◌, ℕ, List, ◌++◌, Some, None, Ok, Err, codes, Option, Result}
use Rattle.seating.specs.Layouts.{Key}
use Rattle.keys.specs.Refusals.{refusal_text}
use Rattle.keys.specs.declared.refusal.Refusal.{Refusal}
use Rattle.keys.specs.declared.refusal.Refusal.TheVariants.{BadLine}
use Rattle.places.specs.Words.{fnv}
use Rattle.placing.specs.Shown.{place_text}
use Rattle.spread.specs.Spreads.{Noted}

-- the key that a line says; one that is too long says none
abbrev pub line_key : (List ℕ → Result Key Refusal) → Option (List ℕ) → Result Key Refusal
line_key reads None = Err BadLine
line_key reads (Some s) = reads s

-- a line of text for a key, or for the refusal
abbrev pub answer_text : (Key → List ℕ) → (Key → List ℕ) → ℕ → Result Key Refusal → List ℕ
answer_text text places z (Ok k) = place_text (text k) (fnv z k) (places k) ++ codes "\n"
answer_text text places z (Err e) = refusal_text e ++ codes "\n"

-- a key that was placed is noted, and a refusal changes nothing
abbrev pub Kept : (Key → List ℕ) → Result Key Refusal → List ℕ → List ℕ → Type 0
Kept places (Ok k) before after = Noted (places k) before after
Kept places (Err e) before after = after ≡ before
