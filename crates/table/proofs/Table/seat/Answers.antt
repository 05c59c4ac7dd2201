use Rattle.std.proofs.Common.{refl, ap, ◌∙◌, inl, inr}
use Rattle.search.proofs.Bridging.{pathed_by, exhausted_pathless}
use Rattle.search.proofs.Walking.{found_road}
use Rattle.seating.proofs.Sitting.{occupied}
use Rattle.table.specs.Shapes.{contents, scene}
use Rattle.table.proofs.Table.seat.Goals as goal

pub returns-then-found-clause-seats : goal.returns-then-found-clause-seats
returns-then-found-clause-seats g c =
    let h = scene c.args.self.now in
    let f = rw (c.new-search.ensures.table, c.if-found.true) at c.seek_key-found.ensures.1 in
    let e = c.carry_out-moved.ensures.after f.walk (found_road _ _ _ _ f) in
    (rw c.moves.ensures.moved (inl (pathed_by h (g.B.Key.Kind.bytes c.args.entry.key) c.args.entry.value _ _ _ _ f e.0 e.1)), c.moves.ensures.stashed, refl)

pub returns-in-Some-clause-seats : goal.returns-in-Some-clause-seats
returns-in-Some-clause-seats g c =
    let h = scene c.args.self.now in
    let x = rw (c.new-search.ensures.table, c.if-found.false) at c.seek_key-found.ensures.1 in (
      inr (record {
        none = exhausted_pathless h (g.B.Key.Kind.bytes c.args.entry.key) _ x;
        slot = c.in-Some.i;
        stash = c.in-Some.ensures.0;
        free = c.in-Some.ensures.1;
        moves = c.moves-in-Some.ensures.moved;
        after = c.write.ensures.after;
      }),
      c.moves-in-Some.ensures.stashed,
      refl,
    )

pub list_blocking-requires-clause-filled : goal.list_blocking-requires-clause-filled
list_blocking-requires-clause-filled g c =
    let same = ap (λ t. t.now) c.if-found.ensures.0 ∙ c.new-search.ensures.table in
    rw same (λ i s. occupied (contents c.args.self.now) i (c.in_default.ensures i s))

pub returns-clause-seats : goal.returns-clause-seats
returns-clause-seats g c =
    let h = scene c.args.self.now in
    let k = g.B.Key.Kind.bytes c.args.entry.key in
    let x = rw c.new-search.ensures.table at c.if-found.ensures.1 in
    let same = ap (λ t. t.now) c.if-found.ensures.0 ∙ c.new-search.ensures.table in
    let b = (rw same at (c.list_blocking.ensures k)) x in
    (record { none = exhausted_pathless h k _ x; filled = λ i s. occupied h.slots i (c.in_default.ensures i s) }, refl, b.0, b.1)
