use Rattle.sp_stage_members.proofs.Lanes.{single_lanes_are_first}
use Rattle.sp_stage_members.proofs.laws.single_lanes_are_first.Goals as goal

pub returns : goal.returns
returns c = single_lanes_are_first
