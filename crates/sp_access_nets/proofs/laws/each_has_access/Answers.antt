use Rattle.sp_access_nets.proofs.Telling.{has_access}
use Rattle.sp_access_nets.proofs.laws.each_has_access.Goals as goal

pub returns : goal.returns
returns c = has_access
