use Rattle.seating.proofs.Keeping.{put_sound_lem}
use Rattle.seating.proofs.steps.put_sound.Goals as goal

pub returns : goal.returns
returns c = put_sound_lem
