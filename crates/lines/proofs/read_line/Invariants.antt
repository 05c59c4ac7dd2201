use Rattle.std.proofs.Common.{◌≡◌, ◌≤◌, ℕ, List, length}
use Rattle.lines.proofs.Known.{Taken}
use Rattle.lines.proofs.read_line.Given as goal

-- the line says what was taken so far, which is nothing at first and no less than a byte a piece
abbrev pub invariant-loop-taken : goal.invariant-loop-taken
invariant-loop-taken g l =
    (done : List ℕ) × Taken (g.R.Read.remaining l.initial.from) (g.R.Read.remaining l.from) l.line done
    × (l.taken ≤ length done) × (l.taken ≡ 0 → length done ≡ 0)
