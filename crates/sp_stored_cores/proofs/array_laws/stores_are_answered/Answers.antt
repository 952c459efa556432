use Rattle.sp_stored_cores.proofs.ArrayStored.{stores_are_answered}
use Rattle.sp_stored_cores.proofs.array_laws.stores_are_answered.Goals as goal

pub returns : goal.returns
returns c = stores_are_answered
