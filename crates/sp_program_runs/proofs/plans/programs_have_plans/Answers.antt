use Rattle.sp_program_runs.proofs.PlansSound.{has_plan}
use Rattle.sp_program_runs.proofs.plans.programs_have_plans.Goals as goal

pub returns : goal.returns
returns c p h = has_plan p (c.programs_stay_cores.ensures p h) (c.programs_are_by_lane.ensures p h)
