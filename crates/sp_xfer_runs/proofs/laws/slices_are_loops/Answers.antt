use Rattle.sp_xfer_runs.proofs.Places.{slices_are_loops}
use Rattle.sp_xfer_runs.proofs.laws.slices_are_loops.Goals as goal

pub returns : goal.returns
returns c = slices_are_loops
