use Rattle.seating.proofs.MapLaws.{drop_map_law_lem}
use Rattle.seating.proofs.steps.drop_map_law.Goals as goal

pub returns : goal.returns
returns c = drop_map_law_lem
