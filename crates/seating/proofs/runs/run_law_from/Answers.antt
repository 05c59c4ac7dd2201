use Rattle.seating.proofs.RunLaws.{run_law_from_lem}
use Rattle.seating.proofs.runs.run_law_from.Goals as goal

pub returns : goal.returns
returns c = run_law_from_lem
