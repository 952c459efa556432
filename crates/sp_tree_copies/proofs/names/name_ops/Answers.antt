use Rattle.std.proofs.Common.{◌+◌, ◌∷◌, ◌++◌, [], take, refl, sym, ap, ◌∙◌}
use Rattle.std.proofs.lemmas.List.{take_more}
use Rattle.sp_copy_nets.specs.Table.{numbers_at}
use Rattle.sp_tree_copies.specs.declared.walk.Walk.{Walk}
use Rattle.sp_tree_copies.proofs.Walking.{op_stands, op_step}
use Rattle.sp_tree_copies.proofs.names.name_ops.Goals as goal

pub loop-op-preserved : goal.loop-op-preserved
loop-op-preserved c =
    let i = c.loop-op.invariant in
    let next : Walk = record { names = c.push.new.self; renewed = c.loop-op.walk.renewed; kept = c.loop-op.walk.kept; loops = c.loop-op.walk.loops; states = c.loop-op.walk.states } in
    record {
      adds = op_step (numbers_at c.args.around.now) (take c.loop-op.op-index c.args.ops.now) (take (c.loop-op.op-index + 1) c.args.ops.now) c.op-item.result c.net_of.result c.args.walk.now c.loop-op.walk next
          (take_more c.args.ops.now c.loop-op.op-index c.op-item.result c.loop-op-test.true ∙ ap (λ x. take c.loop-op.op-index c.args.ops.now ++ x ∷ []) (sym c.op-item.is)) c.net_of.ensures c.in_ok-push.ensures.items refl refl refl refl i.adds;
      stand = λ core turns kept loops d all stand h.
          op_stands d core c.args.around.now c.op-item.result.mem c.net_of.result c.loop-op.walk next c.net_of.ensures c.in_ok-push.ensures.items refl refl stand (i.stand core turns kept loops d all stand h);
    }
