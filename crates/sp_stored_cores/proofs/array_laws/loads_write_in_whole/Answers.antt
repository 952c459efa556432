use Rattle.sp_stored_cores.proofs.ArrayAmong.{loads_write_in_whole}
use Rattle.sp_stored_cores.proofs.array_laws.loads_write_in_whole.Goals as goal

pub returns : goal.returns
returns c = loads_write_in_whole
