use Rattle.sp_transfer_runs.proofs.DelayFinding.{delays_are_there}
use Rattle.sp_transfer_runs.proofs.laws.delays_are_there.Goals as goal

pub returns : goal.returns
returns c = delays_are_there c.delays_are_chosen.ensures
