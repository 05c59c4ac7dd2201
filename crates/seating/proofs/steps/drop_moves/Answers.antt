use Rattle.seating.proofs.Moved.{drop_moves_lem}
use Rattle.seating.proofs.steps.drop_moves.Goals as goal

pub returns : goal.returns
returns c = drop_moves_lem
