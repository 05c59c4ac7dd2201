use Rattle.std.proofs.Common.{sym, ◌∙◌, arith}
use Rattle.seating.specs.Lookups.{bucket_list}
use Rattle.table.specs.Shapes.{layout}
use Rattle.table.proofs.Looking.{bucket_more, bucket_hit, looks_unfound, range_few}
use Rattle.table.proofs.Table.look_near.Goals as goal

pub returns-then-is_some-clause-looks : goal.returns-then-is_some-clause-looks
returns-then-is_some-clause-looks g c =
    bucket_hit _ _ (bucket_list (layout c.args.self.now)) _ _ (c.as_slice-b-items.ensures.value ∙ c.choices-choices.ensures) _ _
    c.loop-b-test.true c.loop-b.invariant.0 _ (sym c.if-is_some.ensures) c.look_range-here.ensures

pub loop-b-preserved : goal.loop-b-preserved
loop-b-preserved g c = (
  bucket_more _ _ (bucket_list (layout c.args.self.now)) _ _ (c.as_slice-b-items.ensures.value ∙ c.choices-choices.ensures) _ _
      c.loop-b-test.true c.loop-b.invariant.0 _ (looks_unfound _ _ _ _ (sym c.if-is_some.ensures) c.look_range-here.ensures),
  grind (arith, range_few),
)
