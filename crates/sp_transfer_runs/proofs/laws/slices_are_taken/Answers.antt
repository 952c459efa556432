use Rattle.sp_transfer_runs.proofs.Taken.{slices_are_taken}
use Rattle.sp_transfer_runs.proofs.laws.slices_are_taken.Goals as goal

pub returns : goal.returns
returns c = slices_are_taken
