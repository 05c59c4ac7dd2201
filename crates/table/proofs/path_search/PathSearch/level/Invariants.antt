use Rattle.std.proofs.Common.{◌≡◌}
use Rattle.search.specs.Searches.{Spread, Under}
use Rattle.table.specs.Shapes.{contents, scene}
use Rattle.table.proofs.path_search.PathSearch.level.Given as goal

abbrev pub invariant-loop-entry : goal.invariant-loop-entry
invariant-loop-entry g l =
    let s = l.initial.self in
    (l.self.table ≡ s.table)
    × Spread (contents s.table.now) (Under (scene s.table.now) s.frontier l.first l.entry) s.frontier l.self.frontier
