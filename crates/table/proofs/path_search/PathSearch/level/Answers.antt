use Rattle.std.proofs.Common.{◌∙◌, arith}
use Rattle.search.specs.Searches.{Nowhere}
use Rattle.search.proofs.Breadth.{level_into, level_onto}
use Rattle.search.proofs.Spreading.{spread_then, struck_then}
use Rattle.table.specs.Shapes.{scene}
use Rattle.table.proofs.path_search.PathSearch.level.Goals as goal

pub returns-then-expand : goal.returns-then-expand
returns-then-expand g c =
    let h = scene c.args.self.now.table.now in
    let i = c.loop-entry.invariant in
    let w = rw i.0 at c.if-expand.ensures.1 in (
      c.if-expand.ensures.0 ∙ i.0,
      struck_then _ _ _ _ i.1
          (level_into h Nowhere _ _ i.1.grew _ _ (omega (arith, c.loop-entry.auto.entry)) (omega (arith, c.loop-entry-test.true, c.len-end.ensures.len)) _ (omega (arith, c.loop-entry-test.true, c.len-end.ensures.len)))
          _ w,
    )

pub loop-entry-preserved : goal.loop-entry-preserved
loop-entry-preserved g c =
    let h = scene c.args.self.now.table.now in
    let i = c.loop-entry.invariant in
    let w = rw i.0 at c.if-expand.ensures.1 in (
      c.if-expand.ensures.0 ∙ i.0,
      spread_then _ _ _ _ i.1
          (level_into h Nowhere _ _ i.1.grew _ _ (omega (arith, c.loop-entry.auto.entry)) (omega (arith, c.loop-entry-test.true, c.len-end.ensures.len)) _ (omega arith))
          (level_onto h Nowhere _ _ i.1.grew _ _ (omega (arith, c.loop-entry.auto.entry)) (omega (arith, c.loop-entry-test.true, c.len-end.ensures.len)))
          w,
    )
