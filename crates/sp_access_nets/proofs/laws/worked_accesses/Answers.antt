use Rattle.sp_access_nets.proofs.Working.{worked}
use Rattle.sp_access_nets.proofs.laws.worked_accesses.Goals as goal

pub returns : goal.returns
returns c = worked
