use Rattle.sp_time.proofs.Whole.{beats_in_order}
use Rattle.sp_time.proofs.laws.beats_in_order.Goals as goal

pub returns : goal.returns
returns c = beats_in_order
