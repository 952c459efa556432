use Rattle.std.proofs.Common.{refl}
use Rattle.sp_channel_runs.proofs.laws.worked_channel.Goals as goal

pub returns : goal.returns
returns c = record { bursts = refl; first_words = refl; last_words = refl; over = refl; phases = refl; askings = refl; found = refl }
