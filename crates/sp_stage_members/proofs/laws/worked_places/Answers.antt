use Rattle.std.proofs.Common.{refl}
use Rattle.sp_stage_members.proofs.laws.worked_places.Goals as goal

pub returns : goal.returns
returns c = record { places = refl; stages = refl }
