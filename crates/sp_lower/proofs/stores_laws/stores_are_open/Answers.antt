use Rattle.sp_lower.proofs.StoresLater.{stores_open}
use Rattle.sp_lower.proofs.stores_laws.stores_are_open.Goals as goal

pub returns : goal.returns
returns c = stores_open
