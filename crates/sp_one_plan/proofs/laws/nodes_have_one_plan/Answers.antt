use Rattle.sp_one_plan.proofs.Plans.{one_best}
use Rattle.sp_one_plan.proofs.laws.nodes_have_one_plan.Goals as goal

pub returns : goal.returns
returns c = one_best
