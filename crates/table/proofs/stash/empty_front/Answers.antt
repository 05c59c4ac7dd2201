use Rattle.std.proofs.Common.{set, ap, ◌∙◌, arith}
use Rattle.seating.specs.Layouts.Content.{vacant}
use Rattle.table.proofs.Stashing.{emptied_more}
use Rattle.table.proofs.stash.empty_front.Goals as goal

pub loop-i-preserved : goal.loop-i-preserved
loop-i-preserved g c =
    let xs = g.B.Bank.slots c.args.bank.now in (
      λ h. c.clear.ensures.after
          ∙ ap (λ ys. set ys c.loop-i.i vacant) (c.loop-i.invariant.0 (omega arith))
          ∙ emptied_more c.loop-i.i xs (omega arith),
      c.clear.ensures.stays ∙ c.loop-i.invariant.1,
    )
