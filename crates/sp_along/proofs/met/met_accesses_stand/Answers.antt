use Rattle.sp_along.proofs.MetStand.{met_stand}
use Rattle.sp_along.proofs.met.met_accesses_stand.Goals as goal

pub returns : goal.returns
returns c = met_stand
