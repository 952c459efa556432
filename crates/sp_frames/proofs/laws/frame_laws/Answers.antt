use Rattle.sp_frames.proofs.Framing.{frames_right}
use Rattle.sp_frames.proofs.laws.frame_laws.Goals as goal

pub returns : goal.returns
returns c = frames_right
