use Rattle.sp_lane_groups.proofs.ValuesCut.{first_are_live}
use Rattle.sp_lane_groups.proofs.values.first_lanes_are_live.Goals as goal

pub returns : goal.returns
returns c = first_are_live
