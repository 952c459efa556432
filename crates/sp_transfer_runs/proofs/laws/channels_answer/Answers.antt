use Rattle.sp_transfer_runs.proofs.Channels.{channels_answer}
use Rattle.sp_transfer_runs.proofs.laws.channels_answer.Goals as goal

pub returns : goal.returns
returns c = channels_answer c.transfers_follow.ensures
