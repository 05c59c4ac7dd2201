use Rattle.seating.proofs.Fronting.{drop_front_lem}
use Rattle.seating.proofs.steps.drop_front.Goals as goal

pub returns : goal.returns
returns c = drop_front_lem
