use Rattle.sp_copy_nets.proofs.Promising.{fit_later}
use Rattle.sp_copy_nets.proofs.laws.numbers_stay.Goals as goal

pub returns : goal.returns
returns c = fit_later
