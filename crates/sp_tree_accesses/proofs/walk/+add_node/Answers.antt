use Rattle.std.proofs.Common.{◌+◌, ◌∷◌, drop, map, ap, sym, ◌∙◌}
use Rattle.std.proofs.lemmas.List.{drop_more}
use Rattle.sp_core.specs.Plain.{plain_counter, plain_node, plain_ops, plain_span}
use Rattle.sp_plan.proofs.RunLists.{drop_past}
use Rattle.sp_plan.proofs.Trees.{plain_outer}
use Rattle.sp_tree_accesses.proofs.Nodes.{branch_adds, inner_adds, loop_begins, loop_ends, loop_goes, machine_adds, sparse_adds}
use Rattle.sp_tree_accesses.proofs.Walking.{on_ok}
use Rattle.sp_tree_accesses.proofs.walk.+add_node.Goals as goal

pub returns-in_ok-add_bounds-in-Inner : goal.returns-in_ok-add_bounds-in-Inner
returns-in_ok-add_bounds-in-Inner t c =
    on_ok c.add_list.result
    (inner_adds c.args.copies.now c.args.acted.now (plain_node c.args.node.now) (map plain_counter c.in-Inner.counters.items) c.in-Inner.owned.items (plain_ops c.in-Inner.ops.items) c.in-Inner.comb (map plain_counter c.deref.result.now) (plain_ops c.deref-in-Inner.result.now)
    c.args.walk.now c.add_bounds.new.walk c.add_list.new.walk (ap plain_node c.in-Inner.is) (ap (map plain_counter) c.deref.ensures.value) (ap plain_ops c.deref-in-Inner.ensures.value) c.in_ok-add_bounds-in-Inner.ensures)
    c.add_list.ensures

pub loop-stage-init : goal.loop-stage-init
loop-stage-init t c =
    loop_begins c.args.copies.now c.args.acted.now (plain_node c.args.node.now) (map plain_counter c.in-Outer.counters.items) c.in-Outer.style c.in-Outer.owned.items c.in-Outer.stages.items c.deref-stage-items.result.now (map plain_counter c.deref-in-Outer.result.now) c.args.walk.now c.add_bounds-in-Outer.new.walk
    (ap plain_node c.in-Outer.is ∙ plain_outer c.in-Outer.counters c.in-Outer.style c.in-Outer.owned c.in-Outer.stages) c.deref-stage-items.ensures.value (ap (map plain_counter) c.deref-in-Outer.ensures.value) c.in_ok-add_bounds-in-Outer.ensures

pub loop-stage-preserved : goal.loop-stage-preserved
loop-stage-preserved t c =
    loop_goes c.args.copies.now c.args.acted.now (plain_node c.args.node.now) (drop c.loop-stage.stage-index c.deref-stage-items.result.now) (drop (c.loop-stage.stage-index + 1) c.deref-stage-items.result.now) c.stage-item.result c.args.walk.now c.loop-stage.walk c.add_node.new.walk
    (drop_more c.deref-stage-items.result.now c.loop-stage.stage-index c.stage-item.result c.loop-stage-test.true ∙ ap (λ x. x ∷ drop (c.loop-stage.stage-index + 1) c.deref-stage-items.result.now) (sym c.stage-item.is)) c.loop-stage.invariant
    c.in_ok-add_node-in-Outer.ensures

pub returns-after-loop-stage : goal.returns-after-loop-stage
returns-after-loop-stage t c =
    loop_ends c.args.copies.now c.args.acted.now (plain_node c.args.node.now) (drop c.loop-stage.stage-index c.deref-stage-items.result.now) c.args.walk.now c.loop-stage.walk (drop_past c.deref-stage-items.result.now c.loop-stage.stage-index c.loop-stage-test.false) c.loop-stage.invariant

pub returns-in_ok-add_node-in-Fsm : goal.returns-in_ok-add_node-in-Fsm
returns-in_ok-add_node-in-Fsm t c =
    on_ok c.add_list-in-Fsm-3.result
    (machine_adds c.args.copies.now c.args.acted.now (plain_node c.args.node.now) (plain_ops c.in-Fsm.start.items) c.in-Fsm.state (plain_ops c.in-Fsm.test.items) (plain_node c.in-Fsm.body.value) (plain_ops c.in-Fsm.next.items) (plain_ops c.deref-in-Fsm.result.now) (plain_ops c.deref-in-Fsm-2.result.now)
    (plain_node c.deref-in-Fsm-3.result.now) (plain_ops c.deref-in-Fsm-4.result.now) c.args.walk.now c.add_list-in-Fsm.new.walk c.add_list-in-Fsm-2.new.walk c.add_node-in-Fsm.new.walk c.add_list-in-Fsm-3.new.walk (ap plain_node c.in-Fsm.is)
    (ap plain_ops c.deref-in-Fsm.ensures.value) (ap plain_ops c.deref-in-Fsm-2.ensures.value) (ap plain_node c.deref-in-Fsm-3.ensures) (ap plain_ops c.deref-in-Fsm-4.ensures.value) c.in_ok-add_list-in-Fsm.ensures c.in_ok-add_list-in-Fsm-2.ensures
    c.in_ok-add_node-in-Fsm.ensures)
    c.add_list-in-Fsm-3.ensures

pub returns-in_ok-add_node-in-Branch : goal.returns-in_ok-add_node-in-Branch
returns-in_ok-add_node-in-Branch t c =
    on_ok c.add_node-in-Branch-2.result
    (branch_adds c.args.copies.now c.args.acted.now (plain_node c.args.node.now) (plain_ops c.in-Branch.test.items) (plain_node c.in-Branch.yes.value) (plain_node c.in-Branch.no.value) (plain_ops c.deref-in-Branch.result.now) (plain_node c.deref-in-Branch-2.result.now) (plain_node c.deref-in-Branch-3.result.now)
    c.args.walk.now c.add_list-in-Branch.new.walk c.add_node-in-Branch.new.walk c.add_node-in-Branch-2.new.walk (ap plain_node c.in-Branch.is) (ap plain_ops c.deref-in-Branch.ensures.value) (ap plain_node c.deref-in-Branch-2.ensures)
    (ap plain_node c.deref-in-Branch-3.ensures) c.in_ok-add_list-in-Branch.ensures c.in_ok-add_node-in-Branch.ensures)
    c.add_node-in-Branch-2.ensures

pub returns-in_ok-add_spans-in-Sparse : goal.returns-in_ok-add_spans-in-Sparse
returns-in_ok-add_spans-in-Sparse t c =
    on_ok c.add_list-in-Sparse.result
    (sparse_adds c.args.copies.now c.args.acted.now (plain_node c.args.node.now) c.in-Sparse.kind c.in-Sparse.dram c.in-Sparse.mem c.in-Sparse.index (map plain_span c.in-Sparse.span.items) (plain_ops c.in-Sparse.count.items) c.in-Sparse.par (map plain_span c.deref-in-Sparse.result.now)
    (plain_ops c.deref-in-Sparse-2.result.now) c.args.walk.now c.add_spans-in-Sparse.new.walk c.add_list-in-Sparse.new.walk (ap plain_node c.in-Sparse.is) (ap (map plain_span) c.deref-in-Sparse.ensures.value) (ap plain_ops c.deref-in-Sparse-2.ensures.value)
    c.in_ok-add_spans-in-Sparse.ensures)
    c.add_list-in-Sparse.ensures
