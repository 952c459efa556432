use Rattle.sp_part_runs.proofs.StepsStepping.{counters_step}
use Rattle.sp_part_runs.proofs.steps.counters_step.Goals as goal

pub returns : goal.returns
returns c = counters_step
