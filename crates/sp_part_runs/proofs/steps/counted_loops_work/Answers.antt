use Rattle.sp_part_runs.proofs.StepsStepping.{counted_loops_work}
use Rattle.sp_part_runs.proofs.steps.counted_loops_work.Goals as goal

pub returns : goal.returns
returns c = counted_loops_work
