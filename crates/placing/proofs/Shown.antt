-- Lines appended.
use Rattle.std.proofs.Common.{◌≡◌, ℕ, List, [], ◌∷◌, ◌++◌, Ok, Err, Result, OnOk, is_ok, if◌then◌else◌, codes, ap, ◌∙◌, append_assoc}
use Rattle.std.specs.List.{flat_map}
use Rattle.placing.specs.Shown.{hex_text, spaced, place_text}

-- what was appended, where it was
pub on_ok_if : {T E : Type 0} (r : Result T E) (new more old : List ℕ) → new ≡ (if is_ok r then more else old) → OnOk r (new ≡ more)
on_ok_if (Ok x) new more old h = h
on_ok_if (Err x) new more old h = tt

-- the word and the choices behind the text of a key
pub place_line : (old mid new key : List ℕ) (word : ℕ) (bs : List ℕ) → mid ≡ old ++ key → new ≡ mid ++ (codes " 0x" ++ (hex_text word ++ (flat_map spaced bs ++ 10 ∷ []))) → new ≡ old ++ (place_text key word bs ++ 10 ∷ [])
place_line old mid new key word bs f e = e ∙ ap (λ (s : List ℕ). s ++ (codes " 0x" ++ (hex_text word ++ (flat_map spaced bs ++ 10 ∷ [])))) f ∙ simp append_assoc
