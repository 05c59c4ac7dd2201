use Rattle.std.proofs.Common.{◌≡◌, ℕ, List, length, ap, ◌∙◌, arith}
use Rattle.search.specs.Queues.{link_to}
use Rattle.search.proofs.Spreading.{spread_as, struck_as, spread_then, struck_then, under_into, under_onto}
use Rattle.table.specs.Shapes.{layout}
use Rattle.table.proofs.Parts.{table_sized, to_candidates, of_candidates}
use Rattle.table.proofs.path_search.PathSearch.spread.Goals as goal

pub returns-then-offer : goal.returns-then-offer
returns-then-offer g c =
    let t = c.args.self.now.table.now in
    let k = g.B.Key.Kind.bytes c.args.key.now in
    let e = c.as_slice-b-items.ensures.value ∙ c.choices-choices.ensures in
    let n = ap (λ (bs : List ℕ). length bs) e in (
      c.loop-b.invariant.0,
      struck_as _ _ _ _ (to_candidates (layout t) (table_sized t g.met.R.Rule.placed) k (link_to c.args.from))
          (struck_then _ _ _ _ c.loop-b.invariant.1
          (under_into _ _ _ _ e _ _ (omega (arith, n, c.loop-b-test.true)))
          _ c.if-offer.ensures),
    )

pub loop-b-preserved : goal.loop-b-preserved
loop-b-preserved g c =
    let e = c.as_slice-b-items.ensures.value ∙ c.choices-choices.ensures in
    (c.loop-b.invariant.0, spread_then _ _ _ _ c.loop-b.invariant.1 (under_into _ _ _ _ e _ _ (omega arith)) (under_onto _ _ _ _ e _) c.if-offer.ensures)

pub returns : goal.returns
returns g c =
    let t = c.args.self.now.table.now in
    let k = g.B.Key.Kind.bytes c.args.key.now in
    let sized = table_sized t g.met.R.Rule.placed in
    let e = c.as_slice-b-items.ensures.value ∙ c.choices-choices.ensures in
    let n : c.loop-b.b-index ≡ length (g.R.Rule.places t.rule k) = omega (arith, ap (λ (bs : List ℕ). length bs) e) in (
      c.loop-b.invariant.0,
      spread_as _ _ _ (to_candidates (layout t) sized k (link_to c.args.from)) (of_candidates (layout t) sized k (link_to c.args.from)) (rw n at c.loop-b.invariant.1),
    )
