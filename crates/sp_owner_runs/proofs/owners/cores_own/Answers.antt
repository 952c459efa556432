use Rattle.sp_owner_runs.proofs.Whole.{cores_own}
use Rattle.sp_owner_runs.proofs.owners.cores_own.Goals as goal

pub returns : goal.returns
returns c core plan delays = cores_own core plan delays (c.trees_own.ensures core plan delays)
