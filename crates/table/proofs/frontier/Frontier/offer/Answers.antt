use Rattle.std.proofs.Common.{◌≡◌, ◌<◌, sym, ◌∙◌, arith}
use Rattle.std.proofs.lemmas.Bool.{both_ways}
use Rattle.search.proofs.Spreading.{spread_then, spread_one, range_into, range_onto}
use Rattle.seating.specs.Layouts.Content.{vacant}
use Rattle.seating.specs.Slots.{at}
use Rattle.table.proofs.Stashing.{held_if}
use Rattle.table.proofs.frontier.Frontier.offer.Goals as goal
use Rattle.table.proofs.frontier.Frontier.offer.Goals.{else-push-via-then-push+else-vacant_at, else-push-via-else-push}

pub loop-i-preserved : goal.loop-i-preserved
loop-i-preserved g c =
    spread_then _ _ _ _ c.loop-i.invariant
    (range_into _ _ _ _ c.loop-i.auto.i (omega arith)) (range_onto _ _ _ c.loop-i.auto.i)
    (spread_one _ _ _ _ _ c.push.ensures.offered full)
  where
    full : c.loop-i.self.tail < c.push.new.self.tail → at (g.B.Bank.slots c.args.bank.now) c.loop-i.i ≡ vacant → ⊥
    full h e = elim c.else-push.branch [
      | else-push-via-then-push+else-vacant_at w ↦ held_if _ (sym w.vacant_at.ensures ∙ w.if-vacant_at.false) e
      | else-push-via-else-push w ↦ both_ways _ w.if-push.false (c.push.ensures.new.1 h)
    ]
