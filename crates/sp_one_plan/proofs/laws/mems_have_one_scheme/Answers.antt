use Rattle.sp_one_plan.proofs.Schemes.{one_scheme}
use Rattle.sp_one_plan.proofs.laws.mems_have_one_scheme.Goals as goal

pub returns : goal.returns
returns c = one_scheme
