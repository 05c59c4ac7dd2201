use Rattle.std.proofs.Common.{◌≡◌, ◌≤◌}
use Rattle.search.specs.Searches.{Spread, Toward}
use Rattle.search.proofs.Rooting.{HeldIn}
use Rattle.seating.specs.Layouts.{bucket_slots, slots}
use Rattle.table.specs.Shapes.{layout, contents}
use Rattle.table.proofs.path_search.PathSearch.offer_stash.Given as goal

abbrev pub invariant-loop-i : goal.invariant-loop-i
invariant-loop-i g l =
    let s = l.initial.self in
    let L = layout s.table.now in
    (l.self.table ≡ s.table)
    × (l.i-iterator.end ≡ slots L)
    × (bucket_slots L ≤ l.i-iterator.start)
    × (l.i-iterator.start ≤ l.i-iterator.end)
    × Spread (contents s.table.now) (Toward 0 (HeldIn (contents s.table.now) (bucket_slots L) l.i-iterator.start)) s.frontier l.self.frontier
