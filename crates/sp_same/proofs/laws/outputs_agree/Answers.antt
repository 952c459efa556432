use Rattle.sp_same.proofs.Whole.{put_out_alike}
use Rattle.sp_same.proofs.laws.outputs_agree.Goals as goal

pub returns : goal.returns
returns c p h = put_out_alike p h
