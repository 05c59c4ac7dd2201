use Rattle.seating.proofs.Keeping.{drop_sound_lem}
use Rattle.seating.proofs.steps.drop_sound.Goals as goal

pub returns : goal.returns
returns c = drop_sound_lem
