use Rattle.std.proofs.Common.{◌+◌, List, Some, map, sym, ◌∙◌, ap, subst, refl}
use Rattle.sp_gates.proofs.Growing.{Grows-same, Grows-join, HasNet-stays}
use Rattle.sp_core.specs.Around.{within}
use Rattle.sp_core.specs.CoreParts.{plain_core}
use Rattle.sp_core.specs.Plain.{plain_counter, plain_ops}
use Rattle.sp_plan.specs.Plain.{plain_node_plan}
use Rattle.sp_machine.specs.Timeline.{times_of}
use Rattle.sp_op_nets.specs.declared.acted.ActedList.{ActedList}
use Rattle.sp_op_nets.specs.declared.table.AroundNets.{AroundNets}
use Rattle.sp_op_nets.specs.Acted.{answers_in, answers_of}
use Rattle.sp_op_nets.specs.Reserved.{Reserves}
use Rattle.sp_op_nets.proofs.Driving.{stay}
use Rattle.sp_list_circuits.specs.Timed.{AreRightHere, AreTimed, IsIssuedList}
use Rattle.sp_inner_circuits.specs.Inner.{IsInner, IsInnerActed}
use Rattle.sp_bound_nets.specs.Bounds.{bound_lists}
use Rattle.sp_bound_nets.proofs.Acting.{lists_kept}
use Rattle.sp_inner_circuits.proofs.Grouping.{some_plain}
use Rattle.sp_inner_circuits.proofs.Issuing.{right_inside, right_counters, counted_reserves, counted_inner}
use Rattle.sp_inner_circuits.proofs.Single.{own_issued, ops_right, part_fits, fit}
use Rattle.sp_inner_circuits.proofs.inner.emit_counted.Goals as goal

pub count_groups-requires-clause-right : goal.count_groups-requires-clause-right
count_groups-requires-clause-right c = right_counters c.args.builder.now (plain_core c.args.core.now) c.args.around.now (map plain_counter c.args.counters.now) (plain_ops c.args.ops.now) c.requires.right

pub planned_ops-requires-clause-right : goal.planned_ops-requires-clause-right
planned_ops-requires-clause-right c =
    let r = c.requires.right in
    subst (λ (t : List AroundNets). AreRightHere c.count_groups.new.builder (plain_core c.args.core.now) t (plain_ops c.args.ops.now)) (sym c.deref.ensures.value)
    (right_inside c.args.builder.now c.count_groups.new.builder (plain_core c.args.core.now) c.args.around.now c.in_ok-counting.counting.inside.items (map plain_counter c.args.counters.now) (plain_ops c.args.ops.now) r
    (c.in_ok-counting.ensures.stand r.around.counters r.stand))

pub emit_body-requires : goal.emit_body-requires
emit_body-requires c =
    let r = c.requires.right in
    let core = plain_core c.args.core.now in
    let ops = plain_ops c.args.ops.now in
    let counters = map plain_counter c.args.counters.now in
    let p = plain_node_plan c.args.plan.now in
    let mid = c.count_groups.new.builder in
    let new = c.planned_ops.new.builder in
    let g = c.in_ok-counting.counting.groups in
    let grown = c.in_ok-placed.ensures.reserves.grows in
    part_fits new p c.args.start (Some g) c.in_ok-placed.placed.items c.in_ok-part.part c.in_ok-part.ensures (HasNet-stays _ _ _ _ (Grows-join _ _ _ c.in_ok-counting.ensures.reserves.grows grown) c.requires.start)
    (HasNet-stays mid new g.more 1 grown c.in_ok-counting.ensures.groups.0, stay mid new g.step 1 (answers_of c.in_ok-placed.placed.items) c.in_ok-counting.ensures.groups.1 c.in_ok-placed.ensures.reserves)
    (fit new core c.deref.result.now c.args.ops.now p c.in_ok-placed.placed.items c.in_ok-placed.ensures.timed c.requires.planned (within r.around counters r.owned) (ops_right core r.around counters r.owned ops r.comb r.right) new (Grows-same new)) c.requires.planned.paced.interval

pub returns-clause-reserves : goal.returns-clause-reserves
returns-clause-reserves c =
    let is = c.in_ok-part.ensures in
    let body = c.in_ok-body.ensures.body in
    subst (λ (xs : List ActedList). Reserves c.args.builder.now c.emit_body.new.builder (answers_in xs)) (sym c.in_ok-push.ensures.items)
    (counted_reserves c.args.builder.now c.count_groups.new.builder c.planned_ops.new.builder c.emit_body.new.builder c.in_ok-counting.counting.groups c.in_ok-counting.counting.acted.items c.in_ok-placed.placed.items c.in_ok-part.part.groups c.in_ok-body.body.acted
    c.in_ok-counting.ensures.reserves c.in_ok-placed.ensures.reserves is.grouped c.in_ok-body.ensures.fills (body.acted.ops ∙ is.does))

pub returns-clause-inner : goal.returns-clause-inner
returns-clause-inner c =
    let core = plain_core c.args.core.now in
    let ops = plain_ops c.args.ops.now in
    let counters = map plain_counter c.args.counters.now in
    let p = plain_node_plan c.args.plan.now in
    let placed = c.planned_ops.new.builder in
    let w : AreTimed placed core c.in_ok-counting.counting.inside.items c.args.ops.now (times_of p) c.in_ok-placed.placed.items =
    subst (λ (t : List AroundNets). AreTimed placed core t c.args.ops.now (times_of p) c.in_ok-placed.placed.items) c.deref.ensures.value c.in_ok-placed.ensures.timed in
    subst (IsInner c.args.builder.now c.emit_body.new.builder core c.args.around.now p c.args.number counters ops c.in_ok-body.body.child) (sym c.in_ok-push.ensures.items)
    (counted_inner c.args.builder.now c.count_groups.new.builder placed c.emit_body.new.builder core c.args.around.now counters c.args.ops.now p c.in_ok-placed.placed.items c.args.number (c.args.number + c.counters_size.result) c.args.start c.in_ok-counting.counting w
    c.requires.planned c.in_ok-placed.ensures.reserves.grows c.in_ok-body.ensures.fills.grows c.in_ok-counting.ensures.counts (some_plain c.args.counters.now c.requires.some) c.in_ok-part.part c.in_ok-body.body.child c.in_ok-body.body.acted c.in_ok-part.ensures
    c.in_ok-body.ensures.body (ap (λ n. c.args.number + n) c.counters_size.ensures))

pub returns-clause-acted : goal.returns-clause-acted
returns-clause-acted c =
    let core = plain_core c.args.core.now in
    let ops = plain_ops c.args.ops.now in
    let counters = map plain_counter c.args.counters.now in
    let p = plain_node_plan c.args.plan.now in
    let new = c.emit_body.new.builder in
    let next = c.args.number + c.counters_size.result in
    let own = c.in_ok-body.body.acted in
    let issued : IsIssuedList new core next ops own =
    own_issued c.planned_ops.new.builder new core c.deref.result.now c.args.ops.now (times_of p) c.in_ok-placed.placed.items c.in_ok-placed.ensures.timed p c.args.start next (Some c.in_ok-counting.counting.groups) c.in_ok-part.part c.in_ok-body.body.child own c.in_ok-body.ensures.fills.grows c.in_ok-part.ensures
    c.in_ok-body.ensures.body in
    subst (IsInnerActed new core c.args.number counters ops) (sym c.in_ok-push.ensures.items)
    (record {
      bounds = c.in_ok-counting.counting.acted.items;
      own = own;
      are = refl;
      of_bounds = lists_kept c.count_groups.new.builder new (Grows-join _ _ _ c.in_ok-placed.ensures.reserves.grows c.in_ok-body.ensures.fills.grows) c.args.number (bound_lists counters) c.in_ok-counting.counting.acted.items c.in_ok-counting.ensures.acted;
      of_own = subst (λ n. IsIssuedList new core n ops own) (ap (λ n. c.args.number + n) c.counters_size.ensures) issued;
    })
