use Rattle.sp_stages.proofs.RightPlan.{right_plan}
use Rattle.sp_stages.proofs.laws.finest_plans_are_right.Goals as goal

pub returns : goal.returns
returns c = right_plan
