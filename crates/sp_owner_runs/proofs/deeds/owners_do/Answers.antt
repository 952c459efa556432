use Rattle.sp_owner_runs.proofs.Doing.{owners_do}
use Rattle.sp_owner_runs.proofs.deeds.owners_do.Goals as goal

pub returns : goal.returns
returns c = owners_do
