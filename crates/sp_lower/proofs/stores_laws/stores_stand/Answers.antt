use Rattle.sp_lower.proofs.StoresKnowing.{all_stand}
use Rattle.sp_lower.proofs.stores_laws.stores_stand.Goals as goal

pub returns : goal.returns
returns c = all_stand
