use Rattle.sp_stored_cores.proofs.ArrayWorked.{worked_load}
use Rattle.sp_stored_cores.proofs.array_examples.worked_load.Goals as goal

pub returns : goal.returns
returns c = worked_load
