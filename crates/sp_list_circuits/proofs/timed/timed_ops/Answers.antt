use Rattle.std.proofs.Common.{length, ◌∙◌, ap}
use Rattle.std.proofs.lemmas.List.{length-map}
use Rattle.sp_core.specs.CoreParts.{plain_core}
use Rattle.sp_core.specs.Plain.{plain_op}
use Rattle.sp_op_nets.proofs.Giving.{stand_all}
use Rattle.sp_list_circuits.proofs.Placing.{nets_each, are_timed, answers_reserved}
use Rattle.sp_list_circuits.proofs.timed.timed_ops.Goals as goal

pub op_nets-requires-clause-stands : goal.op_nets-requires-clause-stands
op_nets-requires-clause-stands c =
    let r = c.requires.right in
    stand_all (plain_core c.args.core.now) r.around c.args.builder.now c.args.around.now c.args.ops.now r.right r.stand

pub op_nets-requires-clause-afters : goal.op_nets-requires-clause-afters
op_nets-requires-clause-afters c = ap length c.deref.ensures.value ∙ c.in_ok-afters.ensures.many

pub circuit_ops-requires-clause-nets : goal.circuit_ops-requires-clause-nets
circuit_ops-requires-clause-nets c = ap length c.deref-2.ensures.value ∙ nets_each _ _ _ _ _ c.in_ok-nets.ensures.nets ∙ length-map c.args.ops.now plain_op

pub returns-clause-timed : goal.returns-clause-timed
returns-clause-timed c =
    are_timed c.op_nets.new.builder (plain_core c.args.core.now) c.args.around.now c.args.ops.now c.args.times.now c.in_ok-placed.placed.items c.in_ok-afters.afters.items c.deref.result.now c.deref-2.result.now c.in_ok-nets.nets.items
    c.deref.ensures.value c.deref-2.ensures.value c.in_ok-nets.ensures.nets c.in_ok-placed.ensures c.in_ok-afters.ensures.each

pub returns-clause-reserves : goal.returns-clause-reserves
returns-clause-reserves c =
    answers_reserved c.op_nets.new.builder (plain_core c.args.core.now) c.args.around.now c.args.ops.now c.args.times.now c.in_ok-placed.placed.items c.in_ok-afters.afters.items c.deref.result.now c.deref-2.result.now c.in_ok-nets.nets.items
    c.deref.ensures.value c.deref-2.ensures.value c.in_ok-nets.ensures.nets c.in_ok-placed.ensures c.args.builder.now c.in_ok-nets.ensures.reserves
