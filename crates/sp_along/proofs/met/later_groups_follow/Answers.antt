use Rattle.sp_along.proofs.MetPathOrder.{groups_follow}
use Rattle.sp_along.proofs.met.later_groups_follow.Goals as goal

pub returns : goal.returns
returns c = groups_follow
