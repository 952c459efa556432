use Rattle.sp_one_plan.proofs.Plans.{one_plan}
use Rattle.sp_one_plan.proofs.laws.cores_have_one_plan.Goals as goal

pub returns : goal.returns
returns c = one_plan
