use Rattle.seating.proofs.Refusals.{blame_exact_lem}
use Rattle.seating.proofs.seats.blame_exact.Goals as goal

pub returns : goal.returns
returns c = blame_exact_lem
