use Rattle.sp_lower.proofs.StoresKnowing.{read_srams}
use Rattle.sp_lower.proofs.stores_laws.stores_read_srams.Goals as goal

pub returns : goal.returns
returns c = read_srams
