use Rattle.sp_xfer_runs.proofs.Moves.{slices_move}
use Rattle.sp_xfer_runs.proofs.laws.slices_move.Goals as goal

pub returns : goal.returns
returns c = slices_move
