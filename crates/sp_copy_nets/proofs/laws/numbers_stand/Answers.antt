use Rattle.sp_copy_nets.proofs.Promising.{fit_stand}
use Rattle.sp_copy_nets.proofs.laws.numbers_stand.Goals as goal

pub returns : goal.returns
returns c = fit_stand
