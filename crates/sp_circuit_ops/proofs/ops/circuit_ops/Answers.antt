use Rattle.std.proofs.Common.{◌+◌, sym, subst, take}
use Rattle.sp_circuit_ops.specs.Circuit.{ArePlaced}
use Rattle.sp_circuit_ops.proofs.Pushing.{one_more}
use Rattle.sp_circuit_ops.proofs.ops.circuit_ops.Goals as goal

pub loop-index-preserved : goal.loop-index-preserved
loop-index-preserved c =
    subst (ArePlaced (take (c.loop-index.index + 1) c.args.ops.now) c.args.times.now c.args.nets.now) (sym c.in_ok-push.ensures.items)
    (one_more c.args.ops.now c.args.times.now c.args.nets.now c.loop-index.index c.loop-index.placed.items c.index-ops-index.result c.index-nets-index.result c.in_ok-circuit_op.field-0 c.requires.nets c.loop-index-test.true
    c.index-ops-index.is c.index-nets-index.is c.loop-index.invariant c.in_ok-circuit_op.ensures)
