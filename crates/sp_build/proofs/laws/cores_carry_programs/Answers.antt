use Rattle.sp_compile.specs.Choices.{lanes_of}
use Rattle.sp_build.proofs.Carrying.{carried}
use Rattle.sp_build.proofs.laws.cores_carry_programs.Goals as goal

pub returns : goal.returns
returns c p plan is =
    carried p plan c.chosen_plans_are_valid.ensures (c.narrow_cores_stay_cores.ensures (lanes_of p) (c.programs_stay_cores.ensures p is)) (c.narrow_cores_stay_by_lane.ensures (lanes_of p) (c.programs_are_by_lane.ensures p is))
    (λ input. c.turns_decide.ensures p input) (λ delays delay. c.narrow_programs_run_well.ensures p plan delays delay is)
