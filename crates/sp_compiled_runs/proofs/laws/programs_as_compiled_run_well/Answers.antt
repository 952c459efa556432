use Rattle.sp_compiled_runs.proofs.Chosen.{planned_runs}
use Rattle.sp_compiled_runs.proofs.laws.programs_as_compiled_run_well.Goals as goal

pub returns : goal.returns
returns c p plan delays delay h = planned_runs p plan delays delay (c.programs_run_well.ensures p plan delays delay h)
