use Rattle.seating.proofs.MapLaws.{put_map_law_lem}
use Rattle.seating.proofs.steps.put_map_law.Goals as goal

pub returns : goal.returns
returns c = put_map_law_lem
