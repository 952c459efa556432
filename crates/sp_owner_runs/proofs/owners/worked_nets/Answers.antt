use Rattle.sp_owner_runs.proofs.Working.{worked}
use Rattle.sp_owner_runs.proofs.owners.worked_nets.Goals as goal

pub returns : goal.returns
returns c = worked
