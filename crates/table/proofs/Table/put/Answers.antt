use Rattle.std.proofs.Common.{◌≡◌, ℕ, List, subst, sym, inl, inr, arith, rules}
use Rattle.seating.specs.Steps.{blank}
use Rattle.table.specs.Promises.{PutPromise, put_done}
use Rattle.table.specs.Shapes.{layout, contents}
use Rattle.table.specs.Tables.{lent}
use Rattle.table.proofs.Placing.{place_put, short_put}
use Rattle.table.proofs.Parts.{kept}
use Rattle.table.proofs.Table.put.Goals as goal

pub returns-then-work-n : goal.returns-then-work-n
returns-then-work-n g c =
    let t = c.args.self.now in
    let n = c.slot_count-n.ensures.count in
    record {
      keeps = kept t;
      done = short_put (layout t) (contents t) (g.B.Key.Kind.bytes c.args.key) c.args.value (lent c.args.work.now c.args.list.now)
          (λ r. elim c.then-work-n.either [ inl w ↦ omega (arith, n, r.0) | inr l ↦ omega (arith, n, r.1) ]);
    }

pub returns : goal.returns
returns g c =
    let t = c.args.self.now in
    let n = c.slot_count-n.ensures.count in
    let L = layout t in
    let xs = contents t in
    let ys = contents c.place.new.self in
    let k = g.B.Key.Kind.bytes c.args.key in
    let was : List ℕ = c.args.work.now in
    let is : List ℕ = c.place.new.list in
    let d = place_put L xs k c.args.value was c.args.list.now (omega (arith, n, c.if-work-n.false), omega (arith, n, c.if-list-n.false)) c.place.result ys is c.place.ensures.places in
    let z : c.drop-guard.new.self.0 ≡ blank was = search rules in
    record {
      keeps = c.place.ensures.keeps;
      done = subst (λ (ws : List ℕ). put_done (λ a. PutPromise L xs k c.args.value (lent was c.args.list.now) a ys (lent ws is)) c.place.result) (sym z) d;
    }
