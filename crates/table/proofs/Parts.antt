-- Parts of a search under another description, and the sizes of a layout.
use Rattle.std.proofs.Common.{◌≡◌, ℕ, ◌-◌, ◌<◌, Bool, true, false, List, [], ◌∷◌, length, MatchBool, refl, inl, inr}
use mathlib.Core.List.Memᴰ
use mathlib.Core.List.{Memᴰ}
use Rattle.std.specs.List.{AllByRecursion}
use Rattle.banks.specs.declared.bank.Bank as Banks
use Rattle.keys.specs.declared.kind.Kind as Kinds
use Rattle.places.specs.declared.rule.Rule as Rules
use Rattle.places.specs.Rules.{Placed}
use Rattle.search.specs.Queues.{Queue}
use Rattle.search.specs.Searches.{Toward, InFirst}
use Rattle.search.proofs.Bridging.{into_candidate, from_candidate}
use Rattle.search.proofs.Spreading.{spread_as, struck_as}
use Rattle.seating.specs.Laws.{Sized}
use Rattle.seating.specs.Layouts.{Key, Content, Layout, Candidate}
use Rattle.table.specs.Shapes.{layout}
use Rattle.table.specs.Tables.{Keeps}
use Rattle.table.specs.Views.{Stepped}
use Rattle.table.specs.declared.Table.{Table}

pub stepped_as : {T V : ℕ → ℕ → Type 0} (xs : List Content) (q r : Queue) (b : Bool)
    → ((m i : ℕ) → T m i → V m i) → ((m i : ℕ) → V m i → T m i) → Stepped xs T q r b → Stepped xs V q r b
stepped_as xs q r true into onto w = struck_as xs q r (r.tail - 1) into w
stepped_as xs q r false into onto w = spread_as xs q r into onto w

all_in : (P : ℕ → Type 0) (bs : List ℕ) → AllByRecursion P bs → (b : ℕ) → Memᴰ b bs → P b
all_in P [] h b m = absurd (Memᴰ.not-nil m)
all_in P (c ∷ bs) h b m = elim (Memᴰ.cases_cons m) [ inl e ↦ rw e h.0 | inr q ↦ all_in P bs h.1 b q ]

-- the layout of a table is sized, by the law of its rule
pub table_sized : {B R K Q : Type 0} {gb : Banks.Ghosts B K Q} {gk : Kinds.Ghosts K Q} {gr : Rules.Ghosts R K Q} (t : Table B R K Q gb gk gr)
    → ((r : R) (k : Key) → Placed (gr.count r) (gr.degree r) (gr.places r k)) → Sized (layout t)
table_sized {gr = gr} t law =
    record { wide = t.some; inside = λ k b m. all_in (λ b. b < gr.count t.rule) (gr.places t.rule k) (law t.rule k).inside b m }

-- the slots of the chosen buckets are the candidates
module _ (L : Layout) (sized : Sized L) (k : Key) (l : ℕ) where
  pub to_candidates : (m i : ℕ) → Toward l (InFirst L.width (L.choices k) (length (L.choices k))) m i → Toward l (Candidate L k) m i
  to_candidates m i t = (t.0, into_candidate L sized k i t.1)

  pub of_candidates : (m i : ℕ) → Toward l (Candidate L k) m i → Toward l (InFirst L.width (L.choices k) (length (L.choices k))) m i
  of_candidates m i t = (t.0, from_candidate L sized k i t.1)

pub when_as : {P P' Q Q' : Type 0} (b : Bool) → (P → P') → (Q → Q') → MatchBool b P Q → MatchBool b P' Q'
when_as true f g w = f w
when_as false f g w = g w

-- a table that is kept but for its bank has the same layout
pub keeps_layout : {B R K Q : Type 0} {gb : Banks.Ghosts B K Q} {gk : Kinds.Ghosts K Q} {gr : Rules.Ghosts R K Q} (t u : Table B R K Q gb gk gr) → Keeps t u → layout u ≡ layout t
keeps_layout t u k = rw (k.rule, k.width, k.stash) refl

pub kept : {B R K Q : Type 0} {gb : Banks.Ghosts B K Q} {gk : Kinds.Ghosts K Q} {gr : Rules.Ghosts R K Q} (t : Table B R K Q gb gk gr) → Keeps t t
kept t = record { rule = refl; width = refl; stash = refl; stays = refl }
