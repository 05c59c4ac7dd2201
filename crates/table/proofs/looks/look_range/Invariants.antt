use Rattle.std.specs.List.{range_with_len}
use Rattle.table.specs.Looks.{Looks}
use Rattle.table.proofs.Looking.{unfound}
use Rattle.table.proofs.looks.look_range.Given as goal

abbrev pub invariant-loop-j : goal.invariant-loop-j
invariant-loop-j g l = Looks (g.B.Bank.slots l.bank) (g.B.Key.Kind.bytes l.key) (range_with_len l.first l.j) (unfound l.j)
