use Rattle.seating.proofs.Existence.{run_exists_lem}
use Rattle.seating.proofs.runs.run_exists.Goals as goal

pub returns : goal.returns
returns c = run_exists_lem
