use Rattle.sp_sched.proofs.RightTimes.{right}
use Rattle.sp_sched.proofs.laws.least_plans_are_right.Goals as goal

pub returns : goal.returns
returns c = right
