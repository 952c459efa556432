use Rattle.sp_lane_groups.proofs.Group.{inners_go}
use Rattle.sp_lane_groups.proofs.laws.inners_go_along.Goals as goal

pub returns : goal.returns
returns c core = inners_go core
