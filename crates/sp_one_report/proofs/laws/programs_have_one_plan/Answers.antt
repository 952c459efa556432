use Rattle.sp_one_report.proofs.Reports.{one_plan_of}
use Rattle.sp_one_report.proofs.laws.programs_have_one_plan.Goals as goal

pub returns : goal.returns
returns c = one_plan_of c.cores_have_one_plan.ensures
