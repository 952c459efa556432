use Rattle.sp_frames.proofs.Framing.{frames_end}
use Rattle.sp_frames.proofs.laws.frames_end.Goals as goal

pub returns : goal.returns
returns c = frames_end c.one_ending.ensures
