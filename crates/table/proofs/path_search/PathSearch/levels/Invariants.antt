use Rattle.std.proofs.Common.{◌≡◌, ◌+◌, ◌-◌, length}
use Rattle.search.specs.Queues.{Seen}
use Rattle.search.specs.Searches.{Reached}
use Rattle.table.specs.Shapes.{scene}
use Rattle.table.proofs.path_search.PathSearch.levels.Given as goal

abbrev pub invariant-levels : goal.invariant-levels
invariant-levels g l =
    let s = l.initial.self in
    (l.self.table ≡ s.table) × Reached (scene s.table.now) (Seen s.frontier) l.self.frontier (l.first + 1)

abbrev pub decreases-levels : goal.decreases-levels
decreases-levels g l =
    (length l.self.frontier.seen - l.self.frontier.tail) + (length l.self.frontier.seen - l.first)
