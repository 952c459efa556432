use Rattle.std.proofs.Common.{◌+◌, [], List, sym, subst, take}
use Rattle.sp_core.specs.Plain.{plain_ops}
use Rattle.sp_circuit_ops.specs.declared.ops.WordNet.{WordNet}
use Rattle.sp_op_nets.specs.Nets.{AreNetsOf, no_op}
use Rattle.sp_op_nets.specs.Reserved.{Reserves, reserved_of}
use Rattle.sp_op_nets.proofs.Joining.{stands_later, nets_behind, reserves_behind}
use Rattle.sp_op_nets.proofs.Reserving.{same_reserved}
use Rattle.sp_op_nets.proofs.nets.op_nets.Goals as goal

pub loop-index-init : goal.loop-index-init
loop-index-init c = record {
  nets = subst (λ (ns : List WordNet). AreNetsOf c.args.builder.now c.args.around.now [] [] ns) (sym c.new-nets.ensures.items) no_op;
  reserves = same_reserved c.args.builder.now;
}

pub op_net-requires : goal.op_net-requires
op_net-requires c =
    stands_later c.args.builder.now c.loop-index.builder c.args.around.now c.index-ops-index.result.kind c.loop-index.invariant.reserves.grows (c.requires.stands c.loop-index.index c.loop-index-test.true c.index-ops-index.result (sym c.index-ops-index.is))

pub loop-index-preserved : goal.loop-index-preserved
loop-index-preserved c =
    let i = c.loop-index.invariant in
    let e = c.in_ok-net.ensures in
    record {
      nets = subst (λ (ns : List WordNet). AreNetsOf c.op_net.new.builder c.args.around.now (plain_ops (take (c.loop-index.index + 1) c.args.ops.now)) (take (c.loop-index.index + 1) c.args.afters.now) ns) (sym c.in_ok-push.ensures.items)
          (nets_behind c.args.builder.now c.loop-index.builder c.op_net.new.builder c.args.around.now c.args.ops.now c.args.afters.now c.loop-index.index c.loop-index.nets.items c.index-ops-index.result c.in_ok-net.net
          c.loop-index-test.true c.requires.afters c.index-ops-index.is i.nets i.reserves e.net e.reserves);
      reserves = subst (λ (ns : List WordNet). Reserves c.args.builder.now c.op_net.new.builder (reserved_of (plain_ops (take (c.loop-index.index + 1) c.args.ops.now)) ns)) (sym c.in_ok-push.ensures.items)
          (reserves_behind c.args.builder.now c.loop-index.builder c.op_net.new.builder c.args.around.now c.args.ops.now c.args.afters.now c.loop-index.index c.loop-index.nets.items c.index-ops-index.result c.in_ok-net.net
          c.loop-index-test.true c.requires.afters c.index-ops-index.is i.nets i.reserves e.net e.reserves);
    }
