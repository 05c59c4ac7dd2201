use Rattle.std.proofs.Common.{length, ap, arith}
use Rattle.std.proofs.lemmas.Bool.{eq-eqb, ne_eqb}
use Rattle.search.specs.Queues.{Queue}
use Rattle.table.proofs.Marking.{marked_too, marked_not}
use Rattle.table.proofs.frontier.Frontier.list_seen.Goals as goal
use Rattle.table.proofs.frontier.Frontier.list_seen.Goals.{then-mark-eq1, else-mark-eq1}

pub loop-i-preserved : goal.loop-i-preserved
loop-i-preserved c =
    let v = c.loop-i.invariant in
    let n = ap (λ (q : Queue). length q.seen) c.self.view_is in
    elim c.if-mark-eq1.branch [
      | then-mark-eq1 w ↦ rw (w.count-is, w.list-is) (marked_too c.self.inside.seen.now c.loop-i.i c.args.list.now c.loop-i.list c.loop-i.count (eq-eqb _ _ w.if-mark-eq1.true) (omega (arith, n, v.1, c.requires)) v.0, omega (arith, v.1))
      | else-mark-eq1 w ↦ rw (w.count-is, w.list-is) (marked_not c.self.inside.seen.now c.loop-i.i c.args.list.now c.loop-i.list c.loop-i.count (ne_eqb _ _ w.if-mark-eq1.false) v.0, omega (arith, v.1))
    ]
