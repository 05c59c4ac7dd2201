-- What the parts of a search do to it.
use Rattle.std.specs.Prelude.{◌≡◌, ℕ, ◌+◌, ◌-◌, Bool, List, ◌++◌, length, drop, MatchBool}
use Rattle.banks.specs.declared.bank.Bank as Banks
use Rattle.keys.specs.declared.kind.Kind as Kinds
use Rattle.places.specs.declared.rule.Rule as Rules
use Rattle.search.specs.Queues.{Queue}
use Rattle.search.specs.Searches.{Spread, Struck, Found, Exhausted, Flooding}
use Rattle.seating.specs.Layouts.{Content}
use Rattle.table.specs.Shapes.{contents, scene}
use Rattle.table.specs.declared.path_search.PathSearch.{PathSearch}

-- the numbers ns stand at the front of the list, c of them
abbrev pub Listed : List ℕ → List ℕ → ℕ → List ℕ → Type 0
Listed ns was c is = (c ≡ length ns) × (is ≡ ns ++ drop c was)

-- a part of a search went through T, or came to a vacant slot, which is the last entry
abbrev pub Stepped : List Content → (ℕ → ℕ → Type 0) → Queue → Queue → Bool → Type 0
Stepped xs T q r b = MatchBool b (Struck xs T q r (r.tail - 1)) (Spread xs T q r)

-- the same of a search, which stays over its table
abbrev pub Went : {B R K Q : Type 0} {gb : Banks.Ghosts B K Q} {gk : Kinds.Ghosts K Q} {gr : Rules.Ghosts R K Q} → (ℕ → ℕ → Type 0)
    → PathSearch B R K Q gb gk gr → PathSearch B R K Q gb gk gr → Bool → Type 0
Went T s t b = (t.table ≡ s.table) × Stepped (contents s.table.now) T s.frontier t.frontier b

-- a search from the roots R found a shortest way, to its last entry, or there is none
abbrev pub Sought : {B R K Q : Type 0} {gb : Banks.Ghosts B K Q} {gk : Kinds.Ghosts K Q} {gr : Rules.Ghosts R K Q} → (ℕ → Type 0)
    → PathSearch B R K Q gb gk gr → PathSearch B R K Q gb gk gr → Bool → Type 0
Sought R s t b =
    (t.table ≡ s.table)
    × MatchBool b (Found (scene s.table.now) R t.frontier (t.frontier.tail - 1)) (Exhausted (scene s.table.now) R t.frontier)

-- a search went on through the stash, until nothing more could be reached
abbrev pub Flooded : {B R K Q : Type 0} {gb : Banks.Ghosts B K Q} {gk : Kinds.Ghosts K Q} {gr : Rules.Ghosts R K Q} → (ℕ → Type 0)
    → PathSearch B R K Q gb gk gr → PathSearch B R K Q gb gk gr → Type 0
Flooded R s t = (t.table ≡ s.table) × Flooding (scene s.table.now) R t.frontier (t.frontier.tail + 1)
