use Rattle.sp_op_nets.proofs.Giving.{fit_all}
use Rattle.sp_op_nets.proofs.laws.nets_fit.Goals as goal

pub returns : goal.returns
returns c = fit_all
