use Rattle.std.proofs.Common.{◌≡◌, sum, rules, arith}
use Rattle.spread.proofs.Spreads.{sum_small}
use Rattle.spread.proofs.spread.reports.total.Goals as goal

pub returns-clause-bound : goal.returns-clause-bound
returns-clause-bound c =
    let value : c.sum.result ≡ sum c.args.counts.now = search rules in
    omega (arith, value, sum_small c.args.counts.now c.type_inv.counts)
