use Rattle.sp_xfer_runs.proofs.Moves.{loads_write}
use Rattle.sp_xfer_runs.proofs.laws.loads_write.Goals as goal

pub returns : goal.returns
returns c = loads_write
