use Rattle.sp_deps.proofs.Least.{sound}
use Rattle.sp_deps.proofs.laws.distances_are_sound.Goals as goal

pub returns : goal.returns
returns c = sound
