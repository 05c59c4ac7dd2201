use Rattle.std.proofs.Common.{◌≡◌, ◌-◌, true, false, refl, arith, rules}
use Rattle.std.proofs.lemmas.Iterator.{first_from_find, YieldsList-from_range}
use borrow.Author.Tests.{tests}
use Rattle.seating.specs.Slots.{at}
use Rattle.table.specs.Shapes.{layout, contents, is_vacant}
use Rattle.table.proofs.Stashing.{first_in}
use Rattle.table.proofs.Table.vacant_stash.Goals as goal

pub returns : goal.returns
returns g c =
    let t = c.args.self.now in
    let xs = contents t in
    first_in (layout t) xs c.stash_slots.result.start (c.stash_slots.result.end - c.stash_slots.result.start) c.find.result c.stash_slots.ensures.start (omega (arith, c.stash_slots.ensures))
    (first_from_find _ _ _ (λ i. is_vacant (at xs i) ≡ true) (λ i. is_vacant (at xs i) ≡ false) c.find.ensures.ran (YieldsList-from_range _ _ _ refl refl) (λ x q k. search (rules, tests)) (λ x q k. search (rules, tests)))
