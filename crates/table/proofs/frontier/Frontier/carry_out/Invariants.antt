use Rattle.std.proofs.Common.{◌≡◌, ℕ, suc, ◌+◌, ◌-◌, ◌<◌, List, length}
use Rattle.search.specs.Roads.{Road, Halfway}
use Rattle.search.specs.Searches.{Trail}
use Rattle.table.proofs.frontier.Frontier.carry_out.Given as goal

abbrev pub invariant-loop-before : goal.invariant-loop-before
invariant-loop-before g l =
    let xs = g.B.Bank.slots l.initial.bank in
    let q = l.self in
    (l.p + l.moved < q.tail)
    × ((w : List ℕ) → Road q (q.tail - 1) w → Halfway xs q w l.p (g.B.Bank.slots l.bank))
    × ((w is : List ℕ) → Road q (q.tail - 1) w → Trail q (suc l.p) is → l.moved + length is ≡ length w)
    × (g.B.Bank.place l.bank ≡ g.B.Bank.place l.initial.bank)

abbrev pub decreases-loop-before : goal.decreases-loop-before
decreases-loop-before g l = l.p
