use Rattle.sp_program_runs.proofs.PlansSound.{runs_in_time}
use Rattle.sp_program_runs.proofs.plans.programs_run_in_time.Goals as goal

pub returns : goal.returns
returns c p plan delays h = runs_in_time p plan delays (c.programs_end_in_lanes.ensures p h) (c.program_plans_are_sound.ensures p plan delays h)
