use Rattle.std.proofs.Common.{refl, ◌∙◌, arith}
use Rattle.search.specs.Queues.{Seen}
use Rattle.search.proofs.Queuing.{tail_le}
use Rattle.search.proofs.Rooting.{roots_reached, level_found, level_exhausted, level_reached}
use Rattle.search.proofs.Spreading.{spread_none}
use Rattle.table.specs.Shapes.{scene}
use Rattle.table.proofs.path_search.PathSearch.levels.Goals as goal

pub levels-init : goal.levels-init
levels-init g c = (refl, roots_reached (scene c.args.self.now.table.now) _ c.requires)

pub returns-then-level : goal.returns-then-level
returns-then-level g c =
    let s = c.args.self.now in
    let i = c.levels.invariant in
    let w = rw i.0 at c.if-level.ensures.1 in
    (c.if-level.ensures.0 ∙ i.0, level_found (scene s.table.now) (Seen s.frontier) _ _ _ i.1 (omega arith) _ w)

pub levels-smaller : goal.levels-smaller
levels-smaller g c =
    let w = c.if-level.ensures.1.grew in
    omega (arith, w.longer, w.len, tail_le _ w.sound, c.levels-test.true, c.len-next.ensures.len, c.len.ensures.len)

pub levels-preserved : goal.levels-preserved
levels-preserved g c =
    let s = c.args.self.now in
    let i = c.levels.invariant in
    let w = rw i.0 at c.if-level.ensures.1 in
    (c.if-level.ensures.0 ∙ i.0, rw c.len-next.ensures.len (level_reached (scene s.table.now) (Seen s.frontier) _ _ _ i.1 (omega arith) w))

pub returns : goal.returns
returns g c =
    let s = c.args.self.now in
    let i = c.levels.invariant in
    (i.0, level_exhausted (scene s.table.now) (Seen s.frontier) _ _ _ i.1 (omega arith) (spread_none _ _ i.1.sound (λ m i t. omega (arith, t.0, t.1, c.levels-test.false, c.len.ensures.len))) refl)
