use Rattle.sp_lower.proofs.StoresKnowing.{reserves_alone}
use Rattle.sp_lower.proofs.stores_laws.reserves_alone.Goals as goal

pub returns : goal.returns
returns c = reserves_alone
