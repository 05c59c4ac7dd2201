-- What the calls of a table promise.
use Rattle.std.specs.Prelude.{◌≡◌, ℕ, List, [], Ok, Err, Result}
use Rattle.banks.specs.declared.bank.Bank as Banks
use Rattle.keys.specs.declared.kind.Kind as Kinds
use Rattle.keys.specs.declared.refusal.Refusal.{Refusal}
use Rattle.keys.specs.declared.refusal.Refusal.TheVariants.{Size, BankShort}
use Rattle.places.specs.declared.rule.Rule as Rules
use Rattle.seating.specs.Fronts.{front}
use Rattle.seating.specs.Layouts.{Key, Value, Content, Layout}
use Rattle.seating.specs.Lookups.{lookup}
use Rattle.seating.specs.Runs.{Ran, fresh}
use Rattle.seating.specs.Slots.{value_of}
use Rattle.seating.specs.Steps.{Lent, MakeDoes}
use Rattle.seating.specs.Steps.MakeAnswer.{made, bad_size, bank_short}
use Rattle.seating.specs.Tables.{Sound}
use Rattle.table.specs.Promises.{PutPromise, put_done, DropPromise, drop_done}
use Rattle.table.specs.Shapes.{layout_of, layout, contents}
use Rattle.table.specs.declared.Looked.{Looked}
use Rattle.table.specs.declared.Moves.{Moves}
use Rattle.table.specs.declared.Seated.{Seated}
use Rattle.table.specs.declared.Table.{Table}
use Rattle.table.specs.declared.Unmade.{Unmade}

-- a table made: over the emptied bank, with the rule and the sizes as asked
pub record Made {B R K Q : Type 0} {gb : Banks.Ghosts B K Q} {gk : Kinds.Ghosts K Q} {gr : Rules.Ghosts R K Q} (b : B) (r : R) (w s : ℕ) (t : Table B R K Q gb gk gr) : Type 0 where
  pub rule : t.rule ≡ r
  pub width : t.width ≡ w
  pub stash : t.stash ≡ s
  pub emptied : MakeDoes (layout_of gr.count gr.places r w s) (gb.slots b) made (contents t)
  pub sound : Sound (layout_of gr.count gr.places r w s) (front (layout_of gr.count gr.places r w s) (contents t))
  pub ran : Ran (layout_of gr.count gr.places r w s) (fresh (layout_of gr.count gr.places r w s)) [] (front (layout_of gr.count gr.places r w s) (contents t))
  pub stays : gb.place t.bank ≡ gb.place b

-- a refused making, by its reason
abbrev pub MakeRefused : Layout → List Content → Refusal → Type 0
MakeRefused L xs Size = MakeDoes L xs bad_size xs
MakeRefused L xs BankShort = MakeDoes L xs bank_short xs
MakeRefused L xs _ = ⊥

-- making: a table, or why there is none, the bank and the rule given back as they were
abbrev pub MakeTells : {B R K Q : Type 0} {gb : Banks.Ghosts B K Q} {gk : Kinds.Ghosts K Q} {gr : Rules.Ghosts R K Q}
    → B → R → ℕ → ℕ → Result (Table B R K Q gb gk gr) (Unmade B R) → Type 0
MakeTells bank rule w s (Ok t) = Made bank rule w s t
MakeTells {gb = gb} {gr = gr} bank rule w s (Err u) =
    (u.bank ≡ bank) × (u.rule ≡ rule) × MakeRefused (layout_of gr.count gr.places rule w s) (gb.slots bank) u.refusal

-- a get answers as a lookup does, and in sound slots as the map
pub record GetTells {B R K Q : Type 0} {gb : Banks.Ghosts B K Q} {gk : Kinds.Ghosts K Q} {gr : Rules.Ghosts R K Q} (t : Table B R K Q gb gk gr) (k : Key) (g : Looked Value) : Type 0 where
  pub answer : (g.found, g.looks) ≡ lookup (layout t) (front (layout t) (contents t)) k
  pub map : Sound (layout t) (front (layout t) (contents t)) → g.found ≡ value_of (front (layout t) (contents t)) k

-- only the bank's slots change
pub record Keeps {B R K Q : Type 0} {gb : Banks.Ghosts B K Q} {gk : Kinds.Ghosts K Q} {gr : Rules.Ghosts R K Q} (t u : Table B R K Q gb gk gr) : Type 0 where
  pub rule : u.rule ≡ t.rule
  pub width : u.width ≡ t.width
  pub stash : u.stash ≡ t.stash
  pub stays : gb.place u.bank ≡ gb.place t.bank

-- a put, from the table t with the words was to the table u with the words is
pub record PutTells {B R K Q : Type 0} {gb : Banks.Ghosts B K Q} {gk : Kinds.Ghosts K Q} {gr : Rules.Ghosts R K Q}
    (t : Table B R K Q gb gk gr) (k : Key) (v : Value) (was : Lent) (r : Result Seated Refusal) (u : Table B R K Q gb gk gr) (is : Lent) : Type 0 where
  pub keeps : Keeps t u
  pub done : put_done (λ a. PutPromise (layout t) (contents t) k v was a (contents u) is) r

-- a drop, from the table t with the work area was to the table u with the work area is
pub record DropTells {B R K Q : Type 0} {gb : Banks.Ghosts B K Q} {gk : Kinds.Ghosts K Q} {gr : Rules.Ghosts R K Q}
    (t : Table B R K Q gb gk gr) (k : Key) (was : List ℕ) (r : Result Moves Refusal) (u : Table B R K Q gb gk gr) (is : List ℕ) : Type 0 where
  pub keeps : Keeps t u
  pub done : drop_done (λ a. DropPromise (layout t) (contents t) k was a (contents u) is) r

abbrev pub lent : List ℕ → List ℕ → Lent
lent ws ls = record { work = ws; list = ls }
