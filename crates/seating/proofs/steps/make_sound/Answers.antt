use Rattle.seating.proofs.Making.{make_sound_lem}
use Rattle.seating.proofs.steps.make_sound.Goals as goal

pub returns : goal.returns
returns c = make_sound_lem
