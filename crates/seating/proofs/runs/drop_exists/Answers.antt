use Rattle.seating.proofs.Existence.{drop_exists_lem}
use Rattle.seating.proofs.runs.drop_exists.Goals as goal

pub returns : goal.returns
returns c = drop_exists_lem
