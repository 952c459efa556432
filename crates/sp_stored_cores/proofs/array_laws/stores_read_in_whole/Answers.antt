use Rattle.sp_stored_cores.proofs.ArrayStored.{stores_read_in_whole}
use Rattle.sp_stored_cores.proofs.array_laws.stores_read_in_whole.Goals as goal

pub returns : goal.returns
returns c = stores_read_in_whole
