use Rattle.sp_owner_runs.proofs.Covering.{trees_name_copies}
use Rattle.sp_owner_runs.proofs.owners.trees_name_copies.Goals as goal

pub returns : goal.returns
returns c core plan delays = trees_name_copies core plan delays (c.laws_below.ensures core plan delays)
