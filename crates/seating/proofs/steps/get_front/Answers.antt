use Rattle.seating.proofs.Fronting.{get_front_lem}
use Rattle.seating.proofs.steps.get_front.Goals as goal

pub returns : goal.returns
returns c = get_front_lem
