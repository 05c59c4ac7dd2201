use Rattle.seating.proofs.Existence.{held_map_lem}
use Rattle.seating.proofs.runs.held_map.Goals as goal

pub returns : goal.returns
returns c = held_map_lem
