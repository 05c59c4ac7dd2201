use Rattle.seating.proofs.Refusals.{refusal_honest_lem}
use Rattle.seating.proofs.seats.refusal_honest.Goals as goal

pub returns : goal.returns
returns c = refusal_honest_lem
