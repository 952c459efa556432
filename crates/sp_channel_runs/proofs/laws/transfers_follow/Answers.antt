use Rattle.sp_channel_runs.proofs.Follow.{transfers_follow}
use Rattle.sp_channel_runs.proofs.laws.transfers_follow.Goals as goal

pub returns : goal.returns
returns c = transfers_follow
