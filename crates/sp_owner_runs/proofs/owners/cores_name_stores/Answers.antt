use Rattle.sp_owner_runs.proofs.Covering.{cores_name_stores}
use Rattle.sp_owner_runs.proofs.owners.cores_name_stores.Goals as goal

pub returns : goal.returns
returns c core plan delays = cores_name_stores core plan delays (c.laws_below.ensures core plan delays) (c.trees_name_copies.ensures core plan delays)
