use Rattle.seating.proofs.Settling.{stash_least_lem}
use Rattle.seating.proofs.seats.stash_least.Goals as goal

pub returns : goal.returns
returns c = stash_least_lem
