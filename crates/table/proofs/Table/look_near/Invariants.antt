use Rattle.std.proofs.Common.{◌*◌, ◌≤◌, take}
use Rattle.std.specs.List.{flat_map}
use Rattle.seating.specs.Lookups.{bucket_list}
use Rattle.table.specs.Looks.{Looks}
use Rattle.table.specs.Shapes.{layout, contents}
use Rattle.table.proofs.Looking.{unfound}
use Rattle.table.proofs.Table.look_near.Given as goal

abbrev pub invariant-loop-b : goal.invariant-loop-b
invariant-loop-b g l =
    Looks (contents l.self) (g.B.Key.Kind.bytes l.key) (flat_map (bucket_list (layout l.self)) (take l.b-index (g.R.Rule.places l.self.rule (g.B.Key.Kind.bytes l.key)))) (unfound l.looks)
    × (l.looks ≤ 4 * l.b-index)
