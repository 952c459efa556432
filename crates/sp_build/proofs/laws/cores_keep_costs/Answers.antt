use Rattle.sp_compile.specs.Choices.{lanes_of, built_core}
use Rattle.sp_build.proofs.Carrying.{cost_kept}
use Rattle.sp_build.proofs.laws.cores_keep_costs.Goals as goal

pub returns : goal.returns
returns c p plan is =
    cost_kept p plan c.chosen_plans_are_valid.ensures (c.narrow_cores_stay_cores.ensures (lanes_of p) (c.programs_stay_cores.ensures p is)) (c.narrow_cores_stay_by_lane.ensures (lanes_of p) (c.programs_are_by_lane.ensures p is))
    (λ delays d. c.cores_end_in_their_cost.ensures (built_core p) plan delays d)
