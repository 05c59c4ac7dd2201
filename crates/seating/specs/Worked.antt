-- A worked run: six names of one letter, four buckets of one slot, one stash slot. Five names are seated, and `d` is refused.
use Rattle.std.specs.Prelude.{◌≡◌, ℕ, ◌-◌, not, List, [], ◌∷◌, take, replicate, codes, filter, slice_index, slice_index_or}
use mathlib.Core.List.{Memᴰ}
use Rattle.std.specs.List.{AllByRecursion}
use Rattle.std.specs.Str.{bytes_eq}
use Rattle.seating.specs.Assignments.{Seats, Unseatable}
use Rattle.seating.specs.Blocking.{blocking}
use Rattle.seating.specs.Calls.{Call, Nothing, With, Holds}
use Rattle.seating.specs.Calls.Call.{put}
use Rattle.seating.specs.Layouts.{Key, Value, Content, Layout}
use Rattle.seating.specs.Layouts.Content.{holding}
use Rattle.seating.specs.Runs.{Ran, fresh, Named}
use Rattle.seating.specs.Steps.{Lent, PutDoes}
use Rattle.seating.specs.Steps.PutAnswer.{full}

abbrev pub letters : List Key
letters = codes "a" ∷ codes "b" ∷ codes "c" ∷ codes "d" ∷ codes "e" ∷ codes "f" ∷ []

-- the number of a letter, `a` being 0
abbrev pub letter : Key → ℕ
letter k = slice_index k 0 - 97

-- the choices of the letters
abbrev pub letter_choices : List (List ℕ)
letter_choices =
    (0 ∷ 3 ∷ []) ∷ (1 ∷ 1 ∷ []) ∷ (2 ∷ 0 ∷ []) ∷ (3 ∷ 0 ∷ []) ∷ (0 ∷ 0 ∷ []) ∷ (1 ∷ 2 ∷ []) ∷ []

abbrev pub worked : Layout
worked = record { buckets = 4; width = 1; stash = 1; choices = λ k. slice_index_or letter_choices (letter k) [] }

-- a put with just enough lent memory
abbrev pub putting : Key → Value → Call
putting k v = put k v 15 5

-- the calls before the refusal, the newest first
abbrev pub worked_calls : List Call
worked_calls =
    putting (codes "a") 1 ∷ putting (codes "e") 5 ∷ putting (codes "c") 3 ∷ putting (codes "f") 6 ∷ putting (codes "b") 2 ∷ []

-- the slots then
abbrev pub worked_slots : List Content
worked_slots =
    holding (codes "c") 3 ∷ holding (codes "b") 2 ∷ holding (codes "f") 6 ∷ holding (codes "a") 1 ∷ holding (codes "e") 5 ∷ []

abbrev pub worked_lent : Lent
worked_lent = record { work = replicate 15 0; list = replicate 5 0 }

-- what the refusal hands back
abbrev pub worked_back : Lent
worked_back = record { work = replicate 15 0; list = 0 ∷ 1 ∷ 2 ∷ 3 ∷ 4 ∷ [] }

-- for each letter left out, slots for all letters, of which its own does not count
abbrev pub worked_help : List (Key × List ℕ)
worked_help =
    (codes "a", 0 ∷ 1 ∷ 0 ∷ 3 ∷ 4 ∷ 2 ∷ [])
    ∷ (codes "b", 3 ∷ 0 ∷ 2 ∷ 4 ∷ 0 ∷ 1 ∷ [])
    ∷ (codes "c", 3 ∷ 1 ∷ 0 ∷ 4 ∷ 0 ∷ 2 ∷ [])
    ∷ (codes "d", 3 ∷ 1 ∷ 0 ∷ 0 ∷ 4 ∷ 2 ∷ [])
    ∷ (codes "e", 3 ∷ 1 ∷ 0 ∷ 4 ∷ 0 ∷ 2 ∷ [])
    ∷ (codes "f", 3 ∷ 1 ∷ 2 ∷ 4 ∷ 0 ∷ 0 ∷ [])
    ∷ []

-- the letters but one
abbrev pub letters_but : Key → List Key
letters_but j = filter (λ k. not (bytes_eq k j)) letters

abbrev pub Helped : Key × List ℕ → Type 0
Helped r = Seats worked (λ k. Memᴰ k (letters_but r.0)) (λ k. slice_index r.1 (letter k))

pub record WorkedStands : Type 0 where
  pub ran : Ran worked (fresh worked) worked_calls worked_slots
  pub refused : PutDoes worked worked_slots (codes "d") 4 worked_lent (full 5) worked_slots worked_back
  pub slots : blocking worked worked_slots (codes "d") ≡ 0 ∷ 1 ∷ 2 ∷ 3 ∷ 4 ∷ []
  pub unseatable : Unseatable worked (With (Holds worked Nothing worked_calls) (codes "d"))
  pub named : AllByRecursion (Named worked_slots (codes "d") (take 5 worked_back.list)) letters
  pub helped : AllByRecursion Helped worked_help
