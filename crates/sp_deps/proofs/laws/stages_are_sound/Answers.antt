use Rattle.sp_deps.proofs.StagesSound.{parts_meet}
use Rattle.sp_deps.proofs.laws.stages_are_sound.Goals as goal

pub returns : goal.returns
returns c = parts_meet
