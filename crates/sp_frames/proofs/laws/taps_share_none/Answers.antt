use Rattle.sp_frames.proofs.Framing.{taps_share_none}
use Rattle.sp_frames.proofs.laws.taps_share_none.Goals as goal

pub returns : goal.returns
returns c = taps_share_none
