use Rattle.seating.proofs.Carrying.{carried_out_lem}
use Rattle.seating.proofs.seats.carried_out.Goals as goal

pub returns : goal.returns
returns c = carried_out_lem
