use Rattle.std.proofs.Common.{◌≡◌, length, replicate, ◌∙◌, ap}
use Rattle.std.proofs.lemmas.List.{length-map}
use Rattle.sp_core.specs.Plain.{plain_op, plain_ops}
use Rattle.sp_op_nets.proofs.Giving.{stand_all}
use Rattle.sp_bound_nets.proofs.Standing.{answers_reserved, are_at_once, nets_each, right_of}
use Rattle.sp_bound_nets.proofs.direct.ops_at_once.Goals as goal

pub op_nets-requires-clause-stands : goal.op_nets-requires-clause-stands
op_nets-requires-clause-stands c =
    let r = c.requires in
    stand_all r.core r.around c.args.builder.now c.args.around.now c.args.ops.now (right_of r.core r.around (plain_ops c.args.ops.now) r.right).0 r.stand

pub circuit_ops-requires-clause-nets : goal.circuit_ops-requires-clause-nets
circuit_ops-requires-clause-nets c = ap length c.deref-3.ensures.value ∙ nets_each _ _ _ _ _ c.in_ok-nets.ensures.nets ∙ length-map c.args.ops.now plain_op

pub returns-clause-placed : goal.returns-clause-placed
returns-clause-placed c =
    let n = length c.args.ops.now in
    let zeros : c.in_ok-at_once.at_once.items ≡ replicate n 0 = c.in_ok-at_once.ensures.items_if_clones_equal (λ y e. e) in
    are_at_once c.op_nets.new.builder c.args.around.now c.args.ops.now c.in_ok-placed.placed.items n c.deref.result.now c.deref-2.result.now c.deref-3.result.now c.in_ok-nets.nets.items
    (c.deref.ensures.value ∙ zeros) (c.deref-2.ensures.value ∙ zeros) c.deref-3.ensures.value c.in_ok-nets.ensures.nets c.in_ok-placed.ensures

pub returns-clause-reserves : goal.returns-clause-reserves
returns-clause-reserves c =
    let n = length c.args.ops.now in
    let zeros : c.in_ok-at_once.at_once.items ≡ replicate n 0 = c.in_ok-at_once.ensures.items_if_clones_equal (λ y e. e) in
    answers_reserved c.op_nets.new.builder c.args.around.now c.args.ops.now c.in_ok-placed.placed.items n c.deref.result.now c.deref-2.result.now c.deref-3.result.now c.in_ok-nets.nets.items
    (c.deref.ensures.value ∙ zeros) (c.deref-2.ensures.value ∙ zeros) c.deref-3.ensures.value c.in_ok-nets.ensures.nets c.in_ok-placed.ensures c.args.builder.now c.in_ok-nets.ensures.reserves
