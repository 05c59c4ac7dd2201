use Rattle.std.proofs.Common.{refl, inl, inr}
use Rattle.table.specs.Shapes.{layout, contents}
use Rattle.table.proofs.Parts.{table_sized}
use Rattle.table.proofs.Placing.{look_found, look_missing}
use Rattle.table.proofs.Table.place.Goals as goal

pub returns-in_default-clause-places : goal.returns-in_default-clause-places
returns-in_default-clause-places g c =
    let t = c.args.self.now in
    inl (look_missing (layout t) (contents t) (g.B.Key.Kind.bytes c.args.entry.key) _ c.look_up.ensures c.in_default.is, c.seat.ensures.seats)

pub returns-clause-places : goal.returns-clause-places
returns-clause-places g c =
    let t = c.args.self.now in
    let k = g.B.Key.Kind.bytes c.args.entry.key in
    inr (refl, (c.in-Some.hit.slot, look_found (layout t) (table_sized t g.met.R.Rule.placed) (contents t) k _ _ c.look_up.ensures c.in-Some.is, c.write.ensures.after), refl)
