use Rattle.std.proofs.Common.{◌≡◌, ℕ, List, subst, sym, ap, ◌∙◌, arith, rules}
use Rattle.seating.specs.Layouts.{Layout}
use Rattle.seating.specs.Slots.{stashed}
use Rattle.seating.specs.Steps.{blank}
use Rattle.seating.specs.Steps.DropAnswer.{dropped, not_held}
use Rattle.table.specs.Promises.{DropPromise}
use Rattle.table.specs.Shapes.{layout, contents}
use Rattle.table.proofs.Parts.{kept, table_sized, keeps_layout}
use Rattle.table.proofs.Placing.{short_drop, absent_drop, done_drop, look_found, look_missing}
use Rattle.table.proofs.Table.drop.Goals as goal

pub returns-then-work-slot_count : goal.returns-then-work-slot_count
returns-then-work-slot_count g c =
    let t = c.args.self.now in
    record {
      keeps = kept t;
      done = short_drop (layout t) (contents t) (g.B.Key.Kind.bytes c.args.key.now) c.args.work.now (omega (arith, c.slot_count.ensures.count, c.if-work-slot_count.true));
    }

pub returns-in_default : goal.returns-in_default
returns-in_default g c =
    let t = c.args.self.now in
    let k = g.B.Key.Kind.bytes c.args.key.now in
    let was : List ℕ = c.args.work.now in
    let d = absent_drop (layout t) (contents t) k was (omega (arith, c.slot_count.ensures.count, c.if-work-slot_count.false)) (look_missing (layout t) (contents t) k _ c.look_up.ensures c.in_default.is) in
    record {
      keeps = kept t;
      done = subst (λ (is : List ℕ). DropPromise (layout t) (contents t) k was not_held (contents t) is) (sym c.drop-guard.ensures) d;
    }

pub returns : goal.returns
returns g c =
    let t = c.args.self.now in
    let k = g.B.Key.Kind.bytes c.args.key.now in
    let was : List ℕ = c.args.work.now in
    let keeps = c.settle-moved.ensures.keeps in
    let ys = contents c.settle-moved.new.self in
    let d = done_drop (layout t) (contents t) k was c.in-Some.hit.slot c.moves.result.moved c.moves.result.stashed ys
    (omega (arith, c.slot_count.ensures.count, c.if-work-slot_count.false))
    (look_found (layout t) (table_sized t g.met.R.Rule.placed) (contents t) k _ _ c.look_up.ensures c.in-Some.is)
    (rw (c.clear.ensures.after, ← c.moves.ensures.moved) at c.settle-moved.ensures.settles)
    (c.moves.ensures.stashed ∙ ap (λ (L : Layout). stashed L ys) (keeps_layout _ _ keeps)) in
    let z : c.drop-guard-2.new.self.0 ≡ blank was = search rules in
    record {
      keeps = record { rule = keeps.rule; width = keeps.width; stash = keeps.stash; stays = keeps.stays ∙ c.clear.ensures.stays };
      done = subst (λ (is : List ℕ). DropPromise (layout t) (contents t) k was (dropped c.moves.result.moved c.moves.result.stashed) ys is) (sym z) d;
    }
