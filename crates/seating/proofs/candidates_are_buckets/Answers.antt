use Rattle.seating.proofs.Buckets.{candidates}
use Rattle.seating.proofs.candidates_are_buckets.Goals as goal

pub returns : goal.returns
returns c = candidates
