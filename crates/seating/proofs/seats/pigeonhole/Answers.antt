use Rattle.seating.proofs.Pigeons.{pigeonhole}
use Rattle.seating.proofs.seats.pigeonhole.Goals as goal

pub returns : goal.returns
returns c = pigeonhole
