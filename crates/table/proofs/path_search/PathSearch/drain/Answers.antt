use Rattle.std.proofs.Common.{◌+◌, ◌∙◌, arith}
use Rattle.search.specs.Searches.{Before}
use Rattle.search.proofs.Flooded.{flood_grows, flood_more}
use Rattle.search.proofs.Queuing.{tail_le}
use Rattle.table.specs.Shapes.{scene}
use Rattle.table.proofs.path_search.PathSearch.drain.Goals as goal

pub loop-entry-smaller-then-not-expand : goal.loop-entry-smaller-then-not-expand
loop-entry-smaller-then-not-expand g c =
    let w = c.if-not-expand.ensures.1.grew in
    omega (arith, w.longer, w.len, c.loop-entry-test.true, c.len.ensures.len, tail_le _ c.loop-entry.invariant.1.sound)

pub loop-entry-preserved-then-not-expand : goal.loop-entry-preserved-then-not-expand
loop-entry-preserved-then-not-expand g c =
    let s = c.args.self.now in
    let i = c.loop-entry.invariant in
    let w = rw i.0 at c.if-not-expand.ensures.1 in (
      c.if-not-expand.ensures.0 ∙ i.0,
      flood_more (scene s.table.now) (Before s.frontier (c.args.first + 1)) _ _ _ i.1 (omega arith) (omega (arith, c.loop-entry-test.true, c.len.ensures.len)) w.grew w.all,
      omega (arith, c.loop-entry-test.true, c.len.ensures.len, w.grew.longer),
    )

pub loop-entry-preserved : goal.loop-entry-preserved
loop-entry-preserved g c =
    let s = c.args.self.now in
    let i = c.loop-entry.invariant in
    let w = rw i.0 at c.if-not-expand.ensures.1 in (
      c.if-not-expand.ensures.0 ∙ i.0,
      flood_grows (scene s.table.now) (Before s.frontier (c.args.first + 1)) _ _ _ i.1 (omega arith) (omega (arith, c.loop-entry-test.true, c.len.ensures.len)) w.grew,
      omega (arith, i.2, w.grew.longer),
    )
