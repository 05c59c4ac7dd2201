use Rattle.std.proofs.Common.{inl, inr}
use Rattle.search.proofs.Bridging.{refilled_by, rested_by}
use Rattle.search.proofs.Walking.{found_road}
use Rattle.table.specs.Shapes.{scene}
use Rattle.table.proofs.Table.settle.Goals as goal

pub returns-then-found-clause-settles : goal.returns-then-found-clause-settles
returns-then-found-clause-settles g c =
    let f = rw (c.new-search.ensures.table, c.if-found.true) at c.seek_stash-found.ensures.1 in
    let e = c.carry_out.ensures.after f.walk (found_road _ _ _ _ f) in
    inr (refilled_by (scene c.args.self.now) _ _ _ _ f e.0 e.1)

pub returns-clause-settles : goal.returns-clause-settles
returns-clause-settles g c =
    let x = rw (c.new-search.ensures.table, c.if-found.false) at c.seek_stash-found.ensures.1 in
    inl (rested_by (scene c.args.self.now) _ x)
