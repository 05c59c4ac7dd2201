use Rattle.std.proofs.Common.{◌≤◌}
use Rattle.search.specs.Searches.{marked_below}
use Rattle.table.specs.Views.{Listed}
use Rattle.table.proofs.frontier.Frontier.list_seen.Given as goal

abbrev pub invariant-loop-i : goal.invariant-loop-i
invariant-loop-i l = Listed (marked_below l.seen l.i) l.initial.list l.count l.list × (l.count ≤ l.i)
