use Rattle.sp_stage_places.proofs.Filled.{plans_have_places}
use Rattle.sp_stage_places.proofs.laws.plans_have_places.Goals as goal

pub returns : goal.returns
returns c = plans_have_places
