use Rattle.table.proofs.Looking.{range_more, range_hit}
use Rattle.table.proofs.looks.look_range.Goals as goal

pub returns-in-Some : goal.returns-in-Some
returns-in-Some g c =
    range_hit (g.B.Bank.slots c.args.bank.now) (g.B.Key.Kind.bytes c.args.key.now) c.args.first c.loop-j.j c.args.count c.in-Some.value
    c.loop-j-test.true c.in-Some.ensures c.loop-j.invariant

pub loop-j-preserved : goal.loop-j-preserved
loop-j-preserved g c =
    range_more (g.B.Bank.slots c.args.bank.now) (g.B.Key.Kind.bytes c.args.key.now) c.args.first c.loop-j.j c.in_default.ensures c.loop-j.invariant
