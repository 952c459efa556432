use Rattle.sp_overlap.proofs.Whole.{plans_are_sound}
use Rattle.sp_overlap.proofs.laws.plans_are_sound.Goals as goal

pub returns : goal.returns
returns c = plans_are_sound
