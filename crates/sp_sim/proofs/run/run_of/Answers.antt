use Rattle.std.proofs.Common.{length, ◌∙◌, sym, ap, subst}
use Rattle.sp_sim.specs.declared.step.Step.{Step}
use Rattle.sp_sim.specs.Runs.{AreWithin, StepStands}
use Rattle.sp_sim.proofs.RunLemmas.{all_push, placed_more}
use Rattle.sp_sim.proofs.run.run_of.Goals as goal

pub places_of-requires-clause-stands : goal.places_of-requires-clause-stands
places_of-requires-clause-stands c = subst (StepStands c.args.nets.now) (sym c.step-item.is) (c.requires.stand c.loop-step.step-index c.step-item.result c.loop-step-test.true)

pub loop-step-preserved : goal.loop-step-preserved
loop-step-preserved c =
    let x = c.step-item.result in
    let i = c.loop-step.step-index in
    let l = c.loop-step-test.true in
    let task = ap (λ (s : Step). s.task) c.step-item.is ∙ c.requires.same i x l in (
      placed_more c.args.nets.now c.args.task c.loop-step.places.items c.push.new.self.items c.args.steps.now i x c.places_of.result l c.step-item.is c.in_ok-push.ensures.items c.places_of.ensures.same task c.loop-step.invariant.0,
      all_push (AreWithin (length c.args.nets.now)) c.loop-step.places.items c.push.new.self.items c.places_of.result c.in_ok-push.ensures.items c.loop-step.invariant.1 c.places_of.ensures.within,
    )
