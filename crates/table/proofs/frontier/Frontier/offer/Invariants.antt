use Rattle.search.specs.Queues.{link_to}
use Rattle.search.specs.Searches.{Spread, Toward, Between}
use Rattle.table.proofs.frontier.Frontier.offer.Given as goal

abbrev pub invariant-loop-i : goal.invariant-loop-i
invariant-loop-i g l = Spread (g.B.Bank.slots l.bank) (Toward (link_to l.from) (Between l.first l.i)) l.initial.self l.self
