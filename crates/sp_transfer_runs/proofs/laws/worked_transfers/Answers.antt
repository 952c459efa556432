use Rattle.sp_transfer_runs.proofs.Worked.{worked_transfers}
use Rattle.sp_transfer_runs.proofs.laws.worked_transfers.Goals as goal

pub returns : goal.returns
returns c = worked_transfers
