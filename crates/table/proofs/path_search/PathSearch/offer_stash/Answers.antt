use Rattle.std.proofs.Common.{sym, ◌∙◌, arith}
use Rattle.search.proofs.Rooting.{held_more, held_skip}
use Rattle.search.proofs.Spreading.{spread_as}
use Rattle.table.proofs.Stashing.{vacant_if, held_if}
use Rattle.table.proofs.path_search.PathSearch.offer_stash.Goals as goal

pub loop-i-preserved-then-not-vacant_at : goal.loop-i-preserved-then-not-vacant_at
loop-i-preserved-then-not-vacant_at g c =
    let i = c.loop-i.invariant in
    let n = c.in-Some.ensures.steps in
    let full = rw n.1.1 at (sym c.vacant_at.ensures ∙ c.if-not-vacant_at.true) in
    (i.0, n.0 ∙ i.1, omega (arith, n), omega (arith, n), rw n.1.2 (held_more _ _ _ i.2 _ _ i.4 _ (rw n.1.1 at c.push.ensures.offered) (held_if _ full)))

pub loop-i-preserved : goal.loop-i-preserved
loop-i-preserved g c =
    let i = c.loop-i.invariant in
    let n = c.in-Some.ensures.steps in
    let free = rw n.1.1 at (sym c.vacant_at.ensures ∙ c.if-not-vacant_at.false) in
    (i.0, n.0 ∙ i.1, omega (arith, n), omega (arith, n), rw n.1.2 (held_skip _ _ _ i.2 _ _ i.4 (vacant_if _ free)))

pub returns-clause-spread : goal.returns-clause-spread
returns-clause-spread g c =
    let i = c.loop-i.invariant in
    let n = c.in-None.ensures.steps in
    spread_as _ _ _
    (λ m j t. (t.0, record { stash = (t.1.0.0, omega (arith, i, t.1.0.1)); held = t.1.1 }))
    (λ m j t. (t.0, ((t.1.stash.0, omega (arith, i, n, t.1.stash.1)), t.1.held)))
    i.4
