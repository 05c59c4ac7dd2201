use Rattle.std.proofs.Common.{◌≡◌, ◌≤◌, length}
use Rattle.table.proofs.Stashing.{emptied}
use Rattle.table.proofs.stash.empty_front.Given as goal

abbrev pub invariant-loop-i : goal.invariant-loop-i
invariant-loop-i g l =
    (l.i ≤ length (g.B.Bank.slots l.initial.bank) → g.B.Bank.slots l.bank ≡ emptied l.i (g.B.Bank.slots l.initial.bank))
    × (g.B.Bank.place l.bank ≡ g.B.Bank.place l.initial.bank)
