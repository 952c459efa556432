use Rattle.sp_one_report.proofs.Reports.{one_list}
use Rattle.sp_one_report.proofs.laws.cores_have_one_list_of_meets.Goals as goal

pub returns : goal.returns
returns c = one_list
