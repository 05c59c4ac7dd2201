-- What a table is made of: its layout, and the slots of its bank.
use Rattle.std.specs.Prelude.{ℕ, Bool, true, false, List}
use Rattle.banks.specs.declared.bank.Bank as Banks
use Rattle.keys.specs.declared.kind.Kind as Kinds
use Rattle.places.specs.declared.rule.Rule as Rules
use Rattle.search.specs.Scenes.{Scene}
use Rattle.seating.specs.Layouts.{Key, Content, Layout}
use Rattle.seating.specs.Layouts.Content.{vacant, holding}
use Rattle.table.specs.declared.Table.{Table}

-- the layout of a rule with its sizes
abbrev pub layout_of : {R : Type 0} → (R → ℕ) → (R → Key → List ℕ) → R → ℕ → ℕ → Layout
layout_of count places r w s = record { buckets = count r; width = w; stash = s; choices = places r }

abbrev pub layout : {B R K Q : Type 0} {gb : Banks.Ghosts B K Q} {gk : Kinds.Ghosts K Q} {gr : Rules.Ghosts R K Q} → Table B R K Q gb gk gr → Layout
layout {gr = gr} t = layout_of gr.count gr.places t.rule t.width t.stash

-- the slots of its whole bank
abbrev pub contents : {B R K Q : Type 0} {gb : Banks.Ghosts B K Q} {gk : Kinds.Ghosts K Q} {gr : Rules.Ghosts R K Q} → Table B R K Q gb gk gr → List Content
contents {gb = gb} t = gb.slots t.bank

-- what a search of the table goes over
abbrev pub scene : {B R K Q : Type 0} {gb : Banks.Ghosts B K Q} {gk : Kinds.Ghosts K Q} {gr : Rules.Ghosts R K Q} → Table B R K Q gb gk gr → Scene
scene t = record { layout = layout t; slots = contents t }

-- a slot holds no key
abbrev pub is_vacant : Content → Bool
is_vacant vacant = true
is_vacant (holding k v) = false
