use Rattle.std.proofs.Common.{◌≡◌, ℕ, replicate}
use Rattle.std.proofs.lemmas.List.{take-replicate}
use Rattle.spread.proofs.spread.Spread.over.Goals as goal

pub returns-clause-none : goal.returns-clause-none
returns-clause-none g c =
    let s = g.met.R.Rule.sized c.args.rule.now in
    let zeros : c.from-counts.result.items ≡ replicate {A = ℕ} 512 0 = c.from-counts.ensures.0 in
    rw (c.truncate.ensures.items, zeros, c.buckets.ensures) (take-replicate _ 512 0 s.few)
