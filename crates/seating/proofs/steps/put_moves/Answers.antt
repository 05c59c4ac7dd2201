use Rattle.seating.proofs.Moved.{put_moves_lem}
use Rattle.seating.proofs.steps.put_moves.Goals as goal

pub returns : goal.returns
returns c = put_moves_lem
