use Rattle.sp_lower.proofs.StoresKnowing.{all_stay}
use Rattle.sp_lower.proofs.stores_laws.stores_stay.Goals as goal

pub returns : goal.returns
returns c = all_stay
