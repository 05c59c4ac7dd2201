use Rattle.std.proofs.Common.{◌≡◌}
use Rattle.search.specs.Queues.{link_to}
use Rattle.search.specs.Searches.{Spread, Toward, InFirst}
use Rattle.table.specs.Shapes.{layout, contents}
use Rattle.table.proofs.path_search.PathSearch.spread.Given as goal

abbrev pub invariant-loop-b : goal.invariant-loop-b
invariant-loop-b g l =
    let t = l.initial.self.table.now in
    (l.self.table ≡ l.initial.self.table)
    × Spread (contents t) (Toward (link_to l.from) (InFirst t.width ((layout t).choices (g.B.Key.Kind.bytes l.key)) l.b-index)) l.initial.self.frontier l.self.frontier
