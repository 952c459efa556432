use Rattle.sp_channel_runs.proofs.Follow.{delays_are_small}
use Rattle.sp_channel_runs.proofs.laws.delays_are_small.Goals as goal

pub returns : goal.returns
returns c = delays_are_small
