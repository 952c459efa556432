use Rattle.sp_plan_times.proofs.Trees.{plans_leave_time}
use Rattle.sp_plan_times.proofs.laws.plans_leave_time.Goals as goal

pub returns : goal.returns
returns c = plans_leave_time
