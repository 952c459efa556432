use Rattle.sp_transfer_runs.proofs.Trees.{transfers_move_all}
use Rattle.sp_transfer_runs.proofs.laws.transfers_move_all.Goals as goal

pub returns : goal.returns
returns c = transfers_move_all
