use Rattle.sp_owner_runs.proofs.Whole.{trees_own}
use Rattle.sp_owner_runs.proofs.owners.trees_own.Goals as goal

pub returns : goal.returns
returns c core plan delays = trees_own core plan delays (c.laws_below.ensures core plan delays)
