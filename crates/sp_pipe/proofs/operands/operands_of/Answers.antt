use Rattle.std.proofs.Common.{◌≡◌, ◌+◌, [], length, sym, subst, arith}
use Rattle.sp_gates.proofs.Growing.{Fills-none, Fills-join, IsOne-stays}
use Rattle.sp_pipe.specs.Acts.{AreOperandsTo}
use Rattle.sp_pipe.proofs.Kept.{stages_kept, operands_kept}
use Rattle.sp_pipe.proofs.Pushing.{no_operands, operand_taken, operand_more}
use Rattle.sp_pipe.proofs.operands.operands_of.Goals as goal

pub loop-i-init : goal.loop-i-init
loop-i-init c = record { fills = Fills-none _; taken = no_operands _ _ _ _ c.new-nets.ensures.items }

pub operand-requires-clause-stages : goal.operand-requires-clause-stages
operand-requires-clause-stages c = stages_kept _ _ c.loop-i.invariant.fills.grows _ _ c.requires.stages

pub operand-requires-clause-one : goal.operand-requires-clause-one
operand-requires-clause-one c = IsOne-stays _ _ _ c.loop-i.invariant.fills.grows c.requires.one

pub operand-requires-clause-taken : goal.operand-requires-clause-taken
operand-requires-clause-taken c =
    let l = c.loop-i-test.true in
    let n = c.len-i-end.ensures in
    let ok = c.args.op.now.args.ok.0 in
    let m = c.len.ensures in
    operand_taken _ c.args.op.now.args.items c.args.op.now.act c.args.op.now.ty _ c.loop-i.i _ c.len.result _ (omega (arith, l, n, ok)) (omega (arith, m, ok)) c.index.ensures c.taken_width-width.ensures.width c.requires.fits.args

pub loop-i-preserved : goal.loop-i-preserved
loop-i-preserved c =
    let i = c.loop-i.invariant in
    let e = c.in_ok-net.ensures in
    let l = c.loop-i-test.true in
    let n = c.len-i-end.ensures in
    let ok = c.args.op.now.args.ok.0 in
    let m = c.len.ensures in
    record {
      fills = Fills-join _ _ _ [] [] i.fills e.fills;
      taken = subst (λ ns. AreOperandsTo c.operand.new.builder c.args.ops.now c.args.op.now ns (c.loop-i.i + 1)) (sym c.in_ok-push.ensures.items)
          (operand_more _ c.args.ops.now c.args.op.now c.loop-i.nets.items c.loop-i.i (operands_kept _ _ e.fills.grows _ _ _ _ i.taken) c.in_ok-net.net _ c.len.result _ (omega (arith, l, n, ok)) (omega (arith, m, ok)) c.index.ensures c.taken_width-width.ensures.width e.net e.word);
    }

pub returns-clause-operands : goal.returns-clause-operands
returns-clause-operands c =
    let a = c.loop-i-test.false in
    let b = c.loop-i.auto.i-end in
    let n = c.len-i-end.ensures in
    let ok = c.args.op.now.args.ok.0 in
    let e : c.loop-i.i ≡ length c.args.op.now.args.items = omega (arith, a, b, n, ok) in
    subst (λ k. AreOperandsTo c.loop-i.builder c.args.ops.now c.args.op.now c.loop-i.nets.items k) e c.loop-i.invariant.taken
