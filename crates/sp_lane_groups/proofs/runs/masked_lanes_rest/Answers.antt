use Rattle.sp_lane_groups.proofs.RunsMasked.{lane_rests}
use Rattle.sp_lane_groups.proofs.runs.masked_lanes_rest.Goals as goal

pub returns : goal.returns
returns c lanes = lane_rests lanes
