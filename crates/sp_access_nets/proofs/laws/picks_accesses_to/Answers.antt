use Rattle.sp_access_nets.proofs.Picked.{picks}
use Rattle.sp_access_nets.proofs.laws.picks_accesses_to.Goals as goal

pub returns : goal.returns
returns c = picks
