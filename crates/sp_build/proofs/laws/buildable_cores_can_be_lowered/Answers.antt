use Rattle.sp_compile.specs.Choices.{lanes_of, built_core}
use Rattle.sp_build.proofs.Lowering.{can_lower}
use Rattle.sp_build.proofs.laws.buildable_cores_can_be_lowered.Goals as goal

pub returns : goal.returns
returns c p plan is =
    can_lower p plan c.chosen_plans_are_valid.ensures (c.narrow_cores_stay_cores.ensures (lanes_of p) (c.programs_stay_cores.ensures p is)) (c.narrow_cores_stay_by_lane.ensures (lanes_of p) (c.programs_are_by_lane.ensures p is))
    (c.valid_plans_have_arrays.ensures (built_core p) plan)
