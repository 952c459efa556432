use Rattle.sp_lane_groups.proofs.Group.{groups_go}
use Rattle.sp_lane_groups.proofs.laws.groups_go_along.Goals as goal

pub returns : goal.returns
returns c core = groups_go core
