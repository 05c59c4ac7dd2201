use Rattle.std.proofs.Common.{suc, ◌≡◌, ◌+◌, sym, arith}
use Rattle.search.proofs.Rooting.{entry_into, entry_onto}
use Rattle.table.specs.Shapes.{contents, scene}
use Rattle.table.proofs.Parts.{stepped_as}
use Rattle.table.proofs.path_search.PathSearch.expand.Goals as goal

pub returns : goal.returns
returns g c =
    let s = c.args.self.now in
    let h = scene s.table.now in
    let p = c.args.entry in
    let k = g.B.Key.Kind.bytes c.in-Some.held.key in
    let is : p + 1 ≡ suc p = omega arith in
    let here = rw c.slot.ensures.slot at (sym c.in-Some.ensures) in (
      c.spread.ensures.0,
      stepped_as (contents s.table.now) s.frontier c.spread.new.self.frontier c.spread.result
          (entry_into h s.frontier (p + 1) p is k c.in-Some.held.value here)
          (entry_onto h s.frontier (p + 1) p is k c.in-Some.held.value here)
          c.spread.ensures.1,
    )
