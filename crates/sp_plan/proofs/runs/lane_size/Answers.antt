use Rattle.std.proofs.Common.{◌+◌, ◌≤◌, Bool, true, false, cond, refl, ap, ◌∙◌, arith}
use Rattle.sp_plan.proofs.RunLists.{counted, all_counted}
use Rattle.sp_plan.proofs.runs.lane_size.Goals as goal

one_at_most : (b : Bool) → cond b 1 0 ≤ 1
one_at_most true = omega arith
one_at_most false = omega arith

pub loop-stage-preserved : goal.loop-stage-preserved
loop-stage-preserved c =
    let grows = c.counted-count.ensures ∙ ap (λ b. c.loop-stage.count + cond b 1 0) c.is_in_lane_0.ensures in
    let few = one_at_most c.is_in_lane_0.result in let most = c.loop-stage.invariant.1 in (
      counted c.args.stages.now c.loop-stage.stage-index c.loop-stage.count c.counted-count.result c.stage-item.result c.stage-item.result _ c.loop-stage-test.true c.stage-item.is refl grows c.loop-stage.invariant.0,
      (let now = c.counted-count.ensures in omega arith),
    )

pub returns : goal.returns
returns c = λ number. all_counted c.args.stages.now c.loop-stage.stage-index c.loop-stage.count number c.loop-stage-test.false c.loop-stage.invariant.0
