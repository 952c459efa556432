use Rattle.std.proofs.Common.{List, [], ◌∷◌, ◌++◌, None, sym, ◌∙◌, ap, subst}
use Rattle.sp_gates.proofs.Growing.{Grows-same, HasNet-stays}
use Rattle.sp_core.specs.Around.{within}
use Rattle.sp_core.specs.CoreParts.{plain_core}
use Rattle.sp_core.specs.Plain.{plain_ops}
use Rattle.sp_plan.specs.Plain.{plain_node_plan}
use Rattle.sp_machine.specs.Timeline.{times_of}
use Rattle.sp_op_nets.specs.declared.acted.ActedList.{ActedList}
use Rattle.sp_op_nets.specs.Acted.{answers_in}
use Rattle.sp_op_nets.specs.Reserved.{Reserves}
use Rattle.sp_inner_circuits.specs.Inner.{IsInner, IsInnerActed}
use Rattle.sp_inner_circuits.proofs.Single.{own_issued, single_acted, ops_right, part_fits, fit, single_reserves, single_inner}
use Rattle.sp_inner_circuits.proofs.inner.emit_single.Goals as goal

pub emit_body-requires : goal.emit_body-requires
emit_body-requires c =
    let r = c.requires.right in
    let core = plain_core c.args.core.now in
    let ops = plain_ops c.args.ops.now in
    let p = plain_node_plan c.args.plan.now in
    let mid = c.planned_ops.new.builder in
    part_fits mid p c.args.start None c.in_ok-placed.placed.items c.in_ok-part.part c.in_ok-part.ensures (HasNet-stays _ _ _ _ c.in_ok-placed.ensures.reserves.grows c.requires.start) tt
    (fit mid core c.args.around.now c.args.ops.now p c.in_ok-placed.placed.items c.in_ok-placed.ensures.timed c.requires.planned (within r.around [] r.owned) (ops_right core r.around [] r.owned ops r.comb r.right) mid (Grows-same mid)) c.requires.planned.paced.interval

pub returns-clause-reserves : goal.returns-clause-reserves
returns-clause-reserves c =
    let is = c.in_ok-part.ensures in
    let body = c.in_ok-body.ensures.body in
    let one = c.in_ok-push.ensures.items ∙ ap (λ (xs : List ActedList). xs ++ c.in_ok-body.body.acted ∷ []) c.new-acted.ensures.items in
    subst (λ xs. Reserves c.args.builder.now c.emit_body.new.builder (answers_in xs)) (sym one)
    (single_reserves c.args.builder.now c.planned_ops.new.builder c.emit_body.new.builder c.in_ok-placed.placed.items c.in_ok-part.part.groups c.in_ok-body.body.acted c.in_ok-placed.ensures.reserves is.grouped c.in_ok-body.ensures.fills (body.acted.ops ∙ is.does))

pub returns-clause-inner : goal.returns-clause-inner
returns-clause-inner c =
    let core = plain_core c.args.core.now in
    let ops = plain_ops c.args.ops.now in
    let p = plain_node_plan c.args.plan.now in
    let one = c.in_ok-push.ensures.items ∙ ap (λ (xs : List ActedList). xs ++ c.in_ok-body.body.acted ∷ []) c.new-acted.ensures.items in
    subst (IsInner c.args.builder.now c.emit_body.new.builder core c.args.around.now p c.args.number [] ops c.in_ok-body.body.child) (sym one)
    (single_inner c.args.builder.now c.planned_ops.new.builder c.emit_body.new.builder core c.args.around.now c.args.ops.now p c.in_ok-placed.placed.items c.in_ok-placed.ensures.timed c.requires.planned c.in_ok-body.ensures.fills.grows c.args.start c.args.number c.in_ok-part.part
    c.in_ok-body.body.child c.in_ok-body.body.acted c.in_ok-part.ensures c.in_ok-body.ensures.body)

pub returns-clause-acted : goal.returns-clause-acted
returns-clause-acted c =
    let core = plain_core c.args.core.now in
    let ops = plain_ops c.args.ops.now in
    let p = plain_node_plan c.args.plan.now in
    let one = c.in_ok-push.ensures.items ∙ ap (λ (xs : List ActedList). xs ++ c.in_ok-body.body.acted ∷ []) c.new-acted.ensures.items in
    subst (IsInnerActed c.emit_body.new.builder core c.args.number [] ops) (sym one)
    (single_acted c.emit_body.new.builder core c.args.number ops c.in_ok-body.body.acted
    (own_issued c.planned_ops.new.builder c.emit_body.new.builder core c.args.around.now c.args.ops.now (times_of p) c.in_ok-placed.placed.items c.in_ok-placed.ensures.timed p c.args.start c.args.number None c.in_ok-part.part c.in_ok-body.body.child
    c.in_ok-body.body.acted c.in_ok-body.ensures.fills.grows c.in_ok-part.ensures c.in_ok-body.ensures.body))
