use Rattle.sp_one_report.proofs.Reports.{one_report_of_text}
use Rattle.sp_one_report.proofs.laws.texts_have_one_report.Goals as goal

pub returns : goal.returns
returns c = one_report_of_text c.cores_have_one_plan.ensures c.texts_spell_one_program.ensures
