use Rattle.seating.proofs.Worked.{worked_stands_lem}
use Rattle.seating.proofs.runs.worked_stands.Goals as goal

pub returns : goal.returns
returns c = worked_stands_lem
