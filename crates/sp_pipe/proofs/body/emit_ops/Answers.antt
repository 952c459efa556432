use Rattle.std.proofs.Common.{◌+◌, [], length, take, ap, subst, ◌∙◌, arith}
use Rattle.std.proofs.lemmas.List.{length_push}
use Rattle.sp_gates.proofs.Growing.{Fills-none, Fills-join, IsOne-stays}
use Rattle.sp_pipe.specs.Acts.{AreActs, StageAt, none}
use Rattle.sp_pipe.proofs.Kept.{ops_fit_kept, stages_kept}
use Rattle.sp_pipe.proofs.Pushing.{item_at, stage_pushed}
use Rattle.sp_pipe.proofs.body.emit_ops.Goals as goal

pub loop-op-init : goal.loop-op-init
loop-op-init c = record {
  fills = Fills-none _;
  each = ap length c.new-stages.ensures.items;
  stages = rw c.new-stages.ensures.items (λ k other l. absurd (omega (arith, l)));
  acts = rw c.new-nets.ensures.items none;
}

pub emit_one-requires-clause-fits : goal.emit_one-requires-clause-fits
emit_one-requires-clause-fits c =
    let i = c.loop-op.invariant in
    ops_fit_kept _ _ i.fills.grows c.args.ops.now c.requires.fits (length c.deref.result.now) c.op-item.result
    (item_at c.args.ops.now (length c.deref.result.now) c.loop-op.op-index c.op-item.result (ap length c.deref.ensures.value ∙ i.each) c.loop-op-test.true c.op-item.is)

pub emit_one-requires-clause-stages : goal.emit_one-requires-clause-stages
emit_one-requires-clause-stages c = rw c.deref.ensures.value c.loop-op.invariant.stages

pub emit_one-requires-clause-one : goal.emit_one-requires-clause-one
emit_one-requires-clause-one c = IsOne-stays _ _ _ c.loop-op.invariant.fills.grows c.requires.one

pub loop-op-preserved : goal.loop-op-preserved
loop-op-preserved c =
    let i = c.loop-op.invariant in
    let e = c.in_ok-stage.ensures in
    record {
      fills = Fills-join _ _ _ [] [] i.fills e.fills;
      each = ap length c.in_ok-push.ensures.items ∙ length_push _ _ ∙ ap (λ n. n + 1) i.each;
      stages = rw c.in_ok-push.ensures.items
          (stage_pushed c.emit_one.new.builder c.loop-op.stages.items c.args.ops.now c.in_ok-stage.stage (stages_kept _ _ e.fills.grows _ _ i.stages) (subst (λ n. StageAt c.emit_one.new.builder c.in_ok-stage.stage c.args.ops.now n) (ap length c.deref.ensures.value) e.stage));
      acts = subst (λ n. AreActs c.emit_one.new.builder c.args.issue c.args.ops.now (take (n + 1) c.args.ops.now) c.emit_one.new.nets.items) (ap length c.deref.ensures.value ∙ i.each) e.acts;
    }
