use Rattle.sp_time.proofs.Whole.{outers_in_order}
use Rattle.sp_time.proofs.laws.outers_in_order.Goals as goal

pub returns : goal.returns
returns c = outers_in_order
