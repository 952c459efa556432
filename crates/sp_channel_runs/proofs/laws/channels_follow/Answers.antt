use Rattle.sp_channel_runs.proofs.Follow.{channel_follows}
use Rattle.sp_channel_runs.proofs.laws.channels_follow.Goals as goal

pub returns : goal.returns
returns c = channel_follows
