use Rattle.std.proofs.Common.{refl}
use Rattle.sp_stage_places.proofs.laws.worked_places.Goals as goal

pub returns : goal.returns
returns c = refl
