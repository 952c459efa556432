use Rattle.sp_loop_circuits.proofs.Rows.{masks_stand}
use Rattle.sp_loop_circuits.proofs.laws.masks_stand.Goals as goal

pub returns : goal.returns
returns c = masks_stand
