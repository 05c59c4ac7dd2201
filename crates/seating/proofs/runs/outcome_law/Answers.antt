use Rattle.seating.proofs.RunLaws.{outcome_law_lem}
use Rattle.seating.proofs.runs.outcome_law.Goals as goal

pub returns : goal.returns
returns c = outcome_law_lem
