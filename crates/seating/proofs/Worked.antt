-- The worked run, step by step.
use Rattle.std.proofs.Common.{◌≡◌, ℕ, ◌≤◌, ltb, List, [], ◌∷◌, length, drop as past, set, None, codes, refl, inl, inr, arith}
use Rattle.seating.specs.Calls.{Call, Nothing, Holds}
use Rattle.seating.specs.Calls.Call.{put}
use Rattle.seating.specs.Layouts.{Key, Value, Content, Candidate}
use Rattle.seating.specs.Layouts.Content.{vacant, holding}
use Rattle.seating.specs.Paths.{CuckooPath, Pathless, Shortest, carry}
use Rattle.seating.specs.Paths.Path.{last}
use Rattle.seating.specs.Runs.{Ran, fresh, Law}
use Rattle.seating.specs.Runs.Ran.{begun, putting}
use Rattle.seating.specs.Slots.{at, value_of, stashed}
use Rattle.seating.specs.Steps.{Missing, Stuck, PutDoes}
use Rattle.seating.specs.Steps.PutAnswer.{seated, full}
use Rattle.seating.specs.Worked.{worked, worked_calls, worked_slots, worked_lent, worked_back, WorkedStands}
use Rattle.seating.proofs.Checking.{pathless, seats}
use Rattle.seating.proofs.Listing.{among_in}
use Rattle.seating.proofs.RunLaws.{run_law_lem}
use Rattle.seating.proofs.Values.{value_none}

missing : (xs : List Content) (k : Key) → value_of xs k ≡ None → Missing worked xs k
missing xs k e i f = value_none xs k e i f.1

-- a vacant candidate is a shortest path
direct : (xs : List Content) (k : Key) (i : ℕ) → Candidate worked k i → at xs i ≡ vacant → Shortest worked xs k (i ∷ [])
direct xs k i c e = record { path = last c e; least = λ js p. some js p }
  where
    some : (js : List ℕ) → CuckooPath worked xs k js → 1 ≤ length js
    some [] p = elim p [ ]
    some (j ∷ js) p = omega arith

-- a put into a vacant candidate
placing : (h : List Call) (xs : List Content) (k : Key) (v : Value) (i : ℕ) → Ran worked (fresh worked) h xs
    → value_of xs k ≡ None → Candidate worked k i → at xs i ≡ vacant
    → Ran worked (fresh worked) (put k v 15 5 ∷ h) (carry xs (i ∷ []) (holding k v))
placing h xs k v i r new c e =
    putting worked_lent worked_lent (seated 0 (stashed worked (carry xs (i ∷ []) (holding k v)))) r
    ((omega arith, omega arith), missing xs k new, inl (record { way = i ∷ []; shortest = direct xs k i c e; moves = refl; after = refl }), refl, refl)

-- a put into the stash, which is vacant
stowing : (h : List Call) (xs : List Content) (k : Key) (v : Value) → Ran worked (fresh worked) h xs
    → value_of xs k ≡ None → Pathless worked xs k → at xs 4 ≡ vacant
    → Ran worked (fresh worked) (put k v 15 5 ∷ h) (set xs 4 (holding k v))
stowing h xs k v r new none e =
    putting worked_lent worked_lent (seated 0 (stashed worked (set xs 4 (holding k v)))) r (
      (omega arith, omega arith),
      missing xs k new,
      inr (record { none = none; slot = 4; stash = (omega arith, omega arith); free = e; moves = refl; after = refl }),
      refl,
      refl,
    )

-- the slots after one, two, three and four puts
abbrev slots1 : List Content
slots1 = vacant ∷ holding (codes "b") 2 ∷ vacant ∷ vacant ∷ vacant ∷ []

abbrev slots2 : List Content
slots2 = vacant ∷ holding (codes "b") 2 ∷ holding (codes "f") 6 ∷ vacant ∷ vacant ∷ []

abbrev slots3 : List Content
slots3 = holding (codes "c") 3 ∷ holding (codes "b") 2 ∷ holding (codes "f") 6 ∷ vacant ∷ vacant ∷ []

abbrev slots4 : List Content
slots4 = holding (codes "c") 3 ∷ holding (codes "b") 2 ∷ holding (codes "f") 6 ∷ vacant ∷ holding (codes "e") 5 ∷ []

ran1 : Ran worked (fresh worked) (past 4 worked_calls) slots1
ran1 = placing [] (fresh worked) (codes "b") 2 1 begun refl (omega arith, among_in _ 1 refl) refl

ran2 : Ran worked (fresh worked) (past 3 worked_calls) slots2
ran2 = placing (past 4 worked_calls) slots1 (codes "f") 6 2 ran1 refl (omega arith, among_in _ 2 refl) refl

ran3 : Ran worked (fresh worked) (past 2 worked_calls) slots3
ran3 = placing (past 3 worked_calls) slots2 (codes "c") 3 0 ran2 refl (omega arith, among_in _ 0 refl) refl

ran4 : Ran worked (fresh worked) (past 1 worked_calls) slots4
ran4 = stowing (past 2 worked_calls) slots3 (codes "e") 5 ran3 refl (pathless worked slots3 (λ i. ltb i 3) (codes "e") refl) refl

ran : Ran worked (fresh worked) worked_calls worked_slots
ran = placing (past 1 worked_calls) slots4 (codes "a") 1 3 ran4 refl (omega arith, among_in _ 3 refl) refl

stuck : Stuck worked worked_slots (codes "d")
stuck = record {
  none = pathless worked worked_slots (λ i. ltb i 4) (codes "d") refl;
  filled = λ t st. (let e : t ≡ 4 = omega (arith, st.0, st.1) in rw e (codes "e", (5, refl)));
}

refused : PutDoes worked worked_slots (codes "d") 4 worked_lent (full 5) worked_slots worked_back
refused = ((omega arith, omega arith), missing worked_slots (codes "d") refl, stuck, refl, refl, refl)

pub worked_stands_lem : WorkedStands
worked_stands_lem = record {
  ran = ran;
  refused = refused;
  slots = refl;
  unseatable = (law.decided (codes "d") 4 worked_lent worked_back (full 5) worked_slots refused
      (λ h. value_none worked_slots (codes "d") refl ((law.kept.exact (codes "d") h.0).1 h.1).0 (h.0, ((law.kept.exact (codes "d") h.0).1 h.1).1))
      (omega arith, omega arith)).refused.0 (5, refl);
  named =
      (inr (3, among_in _ 3 refl, (1, refl)), (inr (1, among_in _ 1 refl, (2, refl)), (inr (0, among_in _ 0 refl, (3, refl)), (inl refl, (inr (4, among_in _ 4 refl, (5, refl)), (inr (2, among_in _ 2 refl, (6, refl)), tt))))));
  helped = (seats worked _ _ refl, (seats worked _ _ refl, (seats worked _ _ refl, (seats worked _ _ refl, (seats worked _ _ refl, (seats worked _ _ refl, tt))))));
}
  where
    law : Law worked (Holds worked Nothing worked_calls) worked_slots
    law = run_law_lem worked worked_calls worked_slots ran
