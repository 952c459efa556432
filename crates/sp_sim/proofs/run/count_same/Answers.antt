use Rattle.std.proofs.Common.{◌∙◌, ap, arith, get_or}
use Rattle.sp_sim.specs.declared.step.Step.{Step}
use Rattle.sp_sim.proofs.RunLemmas.{same_more}
use Rattle.sp_sim.proofs.run.count_same.Goals as goal

pub loop-count-preserved : goal.loop-count-preserved
loop-count-preserved c =
    let i = c.loop-count.count in
    let x = c.index-steps-count.result in
    let l = c.loop-count-test.true in
    let steps = c.args.steps.now in (
      omega (arith),
      omega (arith, l),
      same_more (get_or steps 0 c.index-steps-0.result).task steps i x l c.index-steps-count.is
          (ap (λ (s : Step). s.task) c.index-steps-count.is ∙ c.is_task.ensures c.if-is_task.true) c.loop-count.invariant.2,
    )
