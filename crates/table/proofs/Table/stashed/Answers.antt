use Rattle.std.proofs.Common.{◌≡◌, ◌-◌, ap, ◌∙◌, arith, rules}
use Rattle.std.proofs.lemmas.Iterator.{YieldsList-from_range}
use Rattle.std.proofs.lemmas.Iterator.Consumers.{count_from_yields_List, YieldsList-from_filter}
use borrow.Author.Tests.{tests}
use Rattle.table.specs.Shapes.{contents}
use Rattle.table.proofs.Stashing.{holds, held_from, held_count}
use Rattle.table.proofs.Table.stashed.Goals as goal

pub returns : goal.returns
returns g c =
    let t = c.args.self.now in
    let n : c.stash_slots.result.end - c.stash_slots.result.start ≡ t.stash = omega (arith, c.stash_slots.ensures) in
    count_from_yields_List c.filter.result _ c.count.ensures.ran
    (YieldsList-from_filter _ (holds (contents t)) (YieldsList-from_range _ _ _ c.filter.ensures.source n) c.filter.ensures.closure (λ x b q k. search (rules, tests)))
    ∙ held_count (contents t) c.stash_slots.result.start t.stash
    ∙ ap (λ a. held_from (contents t) a t.stash) c.stash_slots.ensures.start
