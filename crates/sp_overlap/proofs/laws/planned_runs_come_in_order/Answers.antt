use Rattle.sp_overlap.proofs.Whole.{planned_runs_in_order}
use Rattle.sp_overlap.proofs.laws.planned_runs_come_in_order.Goals as goal

pub returns : goal.returns
returns c = planned_runs_in_order
