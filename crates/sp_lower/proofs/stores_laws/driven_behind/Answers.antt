use Rattle.sp_lower.proofs.StoresKnowing.{driven_behind}
use Rattle.sp_lower.proofs.stores_laws.driven_behind.Goals as goal

pub returns : goal.returns
returns c = driven_behind
