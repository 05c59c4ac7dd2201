use Rattle.std.proofs.Common.{◌≡◌, ℕ, ◌+◌, ◌*◌, ◌≤◌, ◌++◌, length, drop, replicate, refl, ap, arith}
use Rattle.seating.specs.Layouts.{slots}
use Rattle.seating.specs.Layouts.Content.{vacant}
use Rattle.seating.specs.Steps.{MakeDoes}
use Rattle.seating.specs.Steps.MakeAnswer.{made}
use Rattle.table.specs.Shapes.{layout_of}
use Rattle.table.proofs.Promising.{made_new}
use Rattle.table.proofs.Table.new.Goals as goal

pub returns : goal.returns
returns g c =
    let L = layout_of g.R.Rule.count g.R.Rule.places c.args.rule c.args.width c.args.stash in
    let xs = g.B.Bank.slots c.args.bank in
    let ys = g.B.Bank.slots c.empty_front.new.bank in
    let n : c.buckets.result * c.args.width + c.args.stash ≡ slots L = ap (λ (b : ℕ). b * c.args.width + c.args.stash) c.buckets.ensures in
    let long : slots L ≤ length xs = omega (arith, n, c.if-len-n.false, c.len.ensures) in
    let e : ys ≡ replicate (slots L) vacant ++ drop (slots L) xs = rw n at (c.empty_front.ensures.after (omega (arith, c.if-len-n.false, c.len.ensures))) in
    let d : MakeDoes L xs made ys = (record { some = omega (arith, c.if-width-lt1.false); narrow = omega (arith, c.if-width-gt4.false); few = omega (arith, c.if-stash-gt8.false) }, long, e) in
    let m = made_new L xs ys d in
    record { rule = refl; width = refl; stash = refl; emptied = d; sound = m.0; ran = m.1; stays = c.empty_front.ensures.stays }
