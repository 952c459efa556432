use Rattle.sp_stage_members.proofs.Lanes.{stages_have_lanes}
use Rattle.sp_stage_members.proofs.laws.stages_have_lanes.Goals as goal

pub returns : goal.returns
returns c = stages_have_lanes
