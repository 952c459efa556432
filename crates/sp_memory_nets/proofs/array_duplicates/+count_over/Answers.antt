use Rattle.std.proofs.Common.{◌+◌, ◌∷◌, arith, sym, ap, ◌∙◌, map, drop}
use Rattle.std.proofs.lemmas.List.{drop_more, length-map}
use Rattle.sp_core.specs.CoreParts.{plain_core}
use Rattle.sp_core.specs.Numbering.{node_count, node_count_in, number_count, number_count_in, counters_size}
use Rattle.sp_core.specs.Plain.{plain_op, plain_ops, plain_node, plain_stage_list, plain_counter}
use Rattle.sp_core_ports.specs.UsedReaders.{over_at, readers_in, readers_in_stages}
use Rattle.sp_plan.proofs.Trees.{plain_outer}
use Rattle.sp_memory_nets.proofs.ArrayOver.{stage_over, list_over, fsm_over, branch_over}
use Rattle.sp_memory_nets.proofs.array_duplicates.+count_over.Goals as goal

pub loop-stage-init : goal.loop-stage-init
loop-stage-init t c =
    let core = plain_core c.args.core.now in
    let is = ap plain_node c.in-Outer.is ∙ plain_outer c.in-Outer.counters c.in-Outer.style c.in-Outer.owned c.in-Outer.stages in
    let size = c.counters_size-in-Outer.ensures ∙ ap (λ xs. counters_size (map plain_counter xs)) c.deref-in-Outer.ensures.value in
    let nodes = ap node_count is in
    let numbers = ap number_count is in
    let items = ap (λ xs. node_count_in (plain_stage_list xs)) c.deref-stage-items.ensures.value in
    let left = ap (λ xs. number_count_in (plain_stage_list xs)) c.deref-stage-items.ensures.value in
    let whole = ap (λ x. over_at c.args.at (readers_in core c.args.m c.args.number x)) is in
    let from = ap (λ k. over_at c.args.at (readers_in_stages core c.args.m (c.args.number + k) (plain_stage_list c.deref-stage-items.result.now))) size in
    let list = ap (λ xs. over_at c.args.at (readers_in_stages core c.args.m (c.args.number + counters_size (map plain_counter c.in-Outer.counters.items)) (plain_stage_list xs))) c.deref-stage-items.ensures.value in
    let r = c.requires in
    let small = r.numbers in
    let few = r.nodes in
    (omega (arith, whole, from, list), omega (arith, numbers, left, size, small), omega (arith, nodes, items), omega (arith, nodes, items, few), few)

pub loop-stage-preserved : goal.loop-stage-preserved
loop-stage-preserved t c =
    let core = plain_core c.args.core.now in
    let items = c.deref-stage-items.result.now in
    let item = c.stage-item.result in
    let rest = drop (c.loop-stage.stage-index + 1) items in
    let step = drop_more items c.loop-stage.stage-index item c.loop-stage-test.true ∙ ap (λ x. x ∷ rest) (sym c.stage-item.is) in
    let over = ap (λ xs. over_at c.args.at (readers_in_stages core c.args.m c.loop-stage.first (plain_stage_list xs))) step in
    let parts = stage_over core c.args.m c.args.at c.loop-stage.first c.count_numbers-first.result c.count_over-total.result item rest c.count_numbers-first.ensures c.count_over-total.ensures.over in
    let numbers = ap (λ xs. number_count_in (plain_stage_list xs)) step in
    let nodes = ap (λ xs. node_count_in (plain_stage_list xs)) step in
    let count = c.count_numbers-first.ensures in
    let few = c.count_over-total.ensures.few in
    let i = c.loop-stage.invariant in
    let whole = i.0 in
    let small = i.1 in
    let left = i.2 in
    let some = i.3 in
    (omega (arith, whole, over, parts), omega (arith, small, numbers, count), omega (arith, left, nodes, few), omega (arith, some, nodes), i.4)

pub returns-in-Fsm-clause-over : goal.returns-in-Fsm-clause-over
returns-in-Fsm-clause-over t c =
    let core = plain_core c.args.core.now in
    let m = c.args.m in
    let at = c.args.at in
    let n = c.args.number in
    let start = c.in-Fsm.start.items in
    let test = c.in-Fsm.test.items in
    let next = c.in-Fsm.next.items in
    let one = length-map start plain_op in
    let two = length-map test plain_op in
    let a = c.len.ensures in
    let b = c.len-in-Fsm.ensures in
    let d = c.len-in-Fsm-2.ensures in
    let count = c.count_numbers.ensures ∙ ap (λ x. number_count (plain_node x)) c.deref-in-Fsm.ensures in
    let tested = n + c.len.result in
    let inside = n + (c.len-in-Fsm.result + c.len-in-Fsm-2.result) in
    let behind = inside + c.count_numbers.result in
    fsm_over core m at n tested inside behind c.list_over-in-Fsm.result c.list_over-in-Fsm-2.result c.count_over.result c.list_over-in-Fsm-3.result (plain_ops start) c.in-Fsm.state (plain_ops test) (plain_node c.in-Fsm.body.value) (plain_ops next)
    (omega (arith, one, a)) (omega (arith, one, two, b, d)) (omega (arith, one, two, b, d, count))
    (c.list_over-in-Fsm.ensures.over ∙ ap (λ xs. list_over core m at n (plain_ops xs)) c.deref-in-Fsm-2.ensures.value)
    (c.list_over-in-Fsm-2.ensures.over ∙ ap (λ xs. list_over core m at tested (plain_ops xs)) c.deref-in-Fsm-3.ensures.value)
    (c.count_over.ensures.over ∙ ap (λ x. over_at at (readers_in core m inside (plain_node x))) c.deref-in-Fsm-4.ensures)
    (c.list_over-in-Fsm-3.ensures.over ∙ ap (λ xs. list_over core m at behind (plain_ops xs)) c.deref-in-Fsm-5.ensures.value)
    ∙ sym (ap (λ x. over_at at (readers_in core m n (plain_node x))) c.in-Fsm.is)

pub returns-in-Branch-clause-over : goal.returns-in-Branch-clause-over
returns-in-Branch-clause-over t c =
    let core = plain_core c.args.core.now in
    let m = c.args.m in
    let at = c.args.at in
    let n = c.args.number in
    let test = c.in-Branch.test.items in
    let one = length-map test plain_op in
    let a = c.len-in-Branch.ensures in
    let count = c.count_numbers-in-Branch.ensures ∙ ap (λ x. number_count (plain_node x)) c.deref-in-Branch.ensures in
    let first = n + c.len-in-Branch.result in
    let second = first + c.count_numbers-in-Branch.result in
    branch_over core m at n first second c.list_over-in-Branch.result c.count_over-in-Branch.result c.count_over-in-Branch-2.result (plain_ops test) (plain_node c.in-Branch.yes.value) (plain_node c.in-Branch.no.value)
    (omega (arith, one, a)) (omega (arith, one, a, count))
    (c.list_over-in-Branch.ensures.over ∙ ap (λ xs. list_over core m at n (plain_ops xs)) c.deref-in-Branch-2.ensures.value)
    (c.count_over-in-Branch.ensures.over ∙ ap (λ x. over_at at (readers_in core m first (plain_node x))) c.deref-in-Branch-3.ensures)
    (c.count_over-in-Branch-2.ensures.over ∙ ap (λ x. over_at at (readers_in core m second (plain_node x))) c.deref-in-Branch-4.ensures)
    ∙ sym (ap (λ x. over_at at (readers_in core m n (plain_node x))) c.in-Branch.is)
