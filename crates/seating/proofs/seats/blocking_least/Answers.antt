use Rattle.seating.proofs.Blockings.{blocking_least_lem}
use Rattle.seating.proofs.seats.blocking_least.Goals as goal

pub returns : goal.returns
returns c = blocking_least_lem
