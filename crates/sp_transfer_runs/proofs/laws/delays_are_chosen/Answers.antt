use Rattle.sp_transfer_runs.proofs.Choice.{delays_are_chosen}
use Rattle.sp_transfer_runs.proofs.laws.delays_are_chosen.Goals as goal

pub returns : goal.returns
returns c = delays_are_chosen
