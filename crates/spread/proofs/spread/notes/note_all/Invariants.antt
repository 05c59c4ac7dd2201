use Rattle.std.proofs.Common.{take}
use Rattle.spread.specs.Spreads.{Noted}
use Rattle.spread.proofs.spread.notes.note_all.Given as goal

-- the choices so far are noted
abbrev pub invariant-loop-j : goal.invariant-loop-j
invariant-loop-j l = Noted (take l.j l.choices) l.initial.counts.items l.counts.items
