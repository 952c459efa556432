use Rattle.sp_program_runs.proofs.PlansSound.{ends_within}
use Rattle.sp_program_runs.proofs.plans.programs_end_within.Goals as goal

pub returns : goal.returns
returns c p plan delays delay h = ends_within p plan delays delay (c.programs_stay_cores.ensures p h) (c.brisk_runs_end_within.ensures _ plan delays delay)
