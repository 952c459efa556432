use Rattle.sp_one_report.proofs.Reports.{one_report_of}
use Rattle.sp_one_report.proofs.laws.programs_have_one_report.Goals as goal

pub returns : goal.returns
returns c = one_report_of c.cores_have_one_plan.ensures
