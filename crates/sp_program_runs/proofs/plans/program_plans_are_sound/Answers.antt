use Rattle.sp_program_runs.proofs.PlansSound.{sound_runs}
use Rattle.sp_program_runs.proofs.plans.program_plans_are_sound.Goals as goal

pub returns : goal.returns
returns c p plan delays h = sound_runs p plan delays (c.programs_have_plans.ensures p h) (c.own_plans_are_sound.ensures _ plan delays)
