use Rattle.sp_loop_nets.proofs.Promising.{rows_stand_later}
use Rattle.sp_loop_nets.proofs.laws.rows_stay.Goals as goal

pub returns : goal.returns
returns c = rows_stand_later
