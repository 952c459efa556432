use Rattle.sp_lane_groups.proofs.ValuesCut.{groups_cut}
use Rattle.sp_lane_groups.proofs.values.groups_are_iterations.Goals as goal

pub returns : goal.returns
returns c = groups_cut
