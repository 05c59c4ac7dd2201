use Rattle.seating.proofs.Fronting.{put_front}
use Rattle.seating.proofs.steps.put_front.Goals as goal

pub returns : goal.returns
returns c = put_front
