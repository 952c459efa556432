use Rattle.sp_lower.proofs.StoresHaving.{had}
use Rattle.sp_lower.proofs.stores_laws.transfers_are_had.Goals as goal

pub returns : goal.returns
returns c = had c.loads_are_had.ensures
