use Rattle.sp_contents.proofs.InTime.{planned_runs_found}
use Rattle.sp_contents.proofs.laws.planned_runs_are_found.Goals as goal

pub returns : goal.returns
returns c = planned_runs_found
