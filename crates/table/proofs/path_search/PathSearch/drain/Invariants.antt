use Rattle.std.proofs.Common.{◌≡◌, ◌+◌, ◌-◌, ◌≤◌, length}
use Rattle.search.specs.Searches.{Before, Flooding}
use Rattle.table.specs.Shapes.{scene}
use Rattle.table.proofs.path_search.PathSearch.drain.Given as goal

abbrev pub invariant-loop-entry : goal.invariant-loop-entry
invariant-loop-entry g l =
    let s = l.initial.self in
    (l.self.table ≡ s.table)
    × Flooding (scene s.table.now) (Before s.frontier (l.first + 1)) l.self.frontier (l.entry + 1)
    × (l.entry ≤ l.self.frontier.tail)

abbrev pub decreases-loop-entry : goal.decreases-loop-entry
decreases-loop-entry g l =
    (length l.self.frontier.seen - l.self.frontier.tail) + (length l.self.frontier.seen - l.entry)
