-- Worked examples of words and choices, all with seed 0: one table.
use Rattle.std.specs.Prelude.{◌≡◌, ℕ, List, [], ◌∷◌, codes}
use Rattle.std.specs.List.{AllByRecursion}
use Rattle.seating.specs.Layouts.{Key}
use Rattle.rules.specs.Builtins.{name_choices}
use Rattle.places.specs.Words.{fnv}
use Rattle.rules.specs.declared.builtin.RuleName.{RuleName}
use Rattle.rules.specs.declared.builtin.RuleName.TheVariants.{Two, Dig2, Dig3, Xor}

-- a key has this word; under a rule with n buckets, a key chooses these
pub data Example : Type 0 where
  word : Key → ℕ → Example
  chooses : RuleName → ℕ → Key → List ℕ → Example

abbrev pub Holds : Example → Type 0
Holds (word k h) = fnv 0 k ≡ h
Holds (chooses r n k bs) = name_choices r n (fnv 0 k) ≡ bs

abbrev pub examples : List Example
examples =
    word (codes "a") 0xe40c292c
    ∷ word (codes "foobar") 0xbf9cf968
    ∷ chooses Dig2 4 (codes "a") (0 ∷ 3 ∷ [])
    ∷ chooses Dig2 4 (codes "b") (1 ∷ 1 ∷ [])
    ∷ chooses Dig2 4 (codes "c") (2 ∷ 0 ∷ [])
    ∷ chooses Dig2 4 (codes "d") (3 ∷ 0 ∷ [])
    ∷ chooses Dig2 4 (codes "e") (0 ∷ 0 ∷ [])
    ∷ chooses Dig2 4 (codes "f") (1 ∷ 2 ∷ [])
    ∷ chooses Dig3 4 (codes "a") (0 ∷ 3 ∷ 2 ∷ [])
    ∷ chooses Dig2 3 (codes "a") (1 ∷ 2 ∷ [])
    ∷ chooses Two 4 (codes "a") (0 ∷ 2 ∷ [])
    ∷ chooses Xor 4 (codes "b") (1 ∷ 3 ∷ [])
    ∷ []

abbrev pub ExamplesHold : Type 0
ExamplesHold = AllByRecursion Holds examples
