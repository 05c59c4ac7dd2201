use Rattle.seating.proofs.Settling.{stuck_blocked_lem}
use Rattle.seating.proofs.seats.stuck_blocked.Goals as goal

pub returns : goal.returns
returns c = stuck_blocked_lem
