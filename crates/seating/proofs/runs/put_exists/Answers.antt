use Rattle.seating.proofs.Existence.{put_exists_lem}
use Rattle.seating.proofs.runs.put_exists.Goals as goal

pub returns : goal.returns
returns c = put_exists_lem
