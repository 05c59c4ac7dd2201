use Rattle.seating.proofs.Looking.{get_map_law_lem}
use Rattle.seating.proofs.steps.get_map_law.Goals as goal

pub returns : goal.returns
returns c = get_map_law_lem
