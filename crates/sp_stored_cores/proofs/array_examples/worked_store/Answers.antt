use Rattle.sp_stored_cores.proofs.ArrayWorkedStores.{worked_store}
use Rattle.sp_stored_cores.proofs.array_examples.worked_store.Goals as goal

pub returns : goal.returns
returns c = worked_store
