use Rattle.std.proofs.Common.{◌≡◌, ◌++◌, ◌∷◌, [], map, arith, sym, ap, ◌∙◌}
use Rattle.std.proofs.lemmas.Grind.{common_steps}
use Rattle.sp_core.specs.Around.{lanes_of}
use Rattle.sp_core.specs.Plain.{plain_counter, plain_mem, plain_node, plain_ops, plain_stage_list}
use Rattle.sp_lanes.specs.Order.{repeated, memories_in}
use Rattle.sp_unroll.specs.Arranged.{arranged, is_kept, singles, parts_of}
use Rattle.sp_unroll.proofs.OrderLemmas.{inner_memories, outer_memories, fsm_memories, branch_memories}
use Rattle.sp_unroll.proofs.TreeLemmas.{plain_outer}
use Rattle.sp_unroll.proofs.order.+memories.Goals as goal

pub returns-in_ok-all-in-Inner : goal.returns-in_ok-all-in-Inner
returns-in_ok-all-in-Inner t c =
    let k = is_kept (map plain_mem c.args.mems.now) c.args.written in
    let e : memories_in k (plain_node c.args.node.now) ≡ repeated (lanes_of (map plain_counter c.in-Inner.counters.items)) (arranged (singles k c.in-Inner.owned.items)) =
    ap (λ n. memories_in k (plain_node n)) c.in-Inner.is ∙ sym (inner_memories k (map plain_counter c.in-Inner.counters.items) c.in-Inner.owned.items (plain_ops c.in-Inner.ops.items) c.in-Inner.comb) in
    rw e (grind (arith, common_steps))

pub returns-in_ok-all-in-Outer : goal.returns-in_ok-all-in-Outer
returns-in_ok-all-in-Outer t c =
    let k = is_kept (map plain_mem c.args.mems.now) c.args.written in
    let stages = plain_stage_list c.in-Outer.stages.items in
    let e : memories_in k (plain_node c.args.node.now) ≡ repeated (lanes_of (map plain_counter c.in-Outer.counters.items)) (arranged (singles k c.in-Outer.owned.items ++ parts_of k stages)) =
    ap (λ n. memories_in k (plain_node n)) c.in-Outer.is
    ∙ ap (memories_in k) (plain_outer c.in-Outer.counters c.in-Outer.style c.in-Outer.owned c.in-Outer.stages)
    ∙ sym (outer_memories k (map plain_counter c.in-Outer.counters.items) c.in-Outer.style c.in-Outer.owned.items stages) in
    rw e (grind (arith, common_steps))

pub returns-in_ok-all-in-Fsm : goal.returns-in_ok-all-in-Fsm
returns-in_ok-all-in-Fsm t c =
    let k = is_kept (map plain_mem c.args.mems.now) c.args.written in
    let body = plain_node c.in-Fsm.body.value in
    let e : memories_in k (plain_node c.args.node.now) ≡ arranged (singles k (c.in-Fsm.state ∷ []) ++ memories_in k body ∷ []) =
    ap (λ n. memories_in k (plain_node n)) c.in-Fsm.is
    ∙ sym (fsm_memories k (plain_ops c.in-Fsm.start.items) c.in-Fsm.state (plain_ops c.in-Fsm.test.items) body (plain_ops c.in-Fsm.next.items)) in
    rw e (grind (arith, common_steps))

pub returns-in_ok-all-in-Branch : goal.returns-in_ok-all-in-Branch
returns-in_ok-all-in-Branch t c =
    let k = is_kept (map plain_mem c.args.mems.now) c.args.written in
    let e : memories_in k (plain_node c.args.node.now) ≡ arranged (memories_in k (plain_node c.in-Branch.yes.value) ∷ memories_in k (plain_node c.in-Branch.no.value) ∷ []) =
    ap (λ n. memories_in k (plain_node n)) c.in-Branch.is
    ∙ sym (branch_memories k (plain_ops c.in-Branch.test.items) (plain_node c.in-Branch.yes.value) (plain_node c.in-Branch.no.value)) in
    rw e (grind (arith, common_steps))

pub returns-in-Load : goal.returns-in-Load
unfolding memories_in
returns-in-Load t c =
    let k = is_kept (map plain_mem c.args.mems.now) c.args.written in
    let e : memories_in k (plain_node c.args.node.now) ≡ [] = ap (λ n. memories_in k (plain_node n)) c.in-Load.is in
    rw e (grind (arith, common_steps))

pub returns-in-Store : goal.returns-in-Store
unfolding memories_in
returns-in-Store t c =
    let k = is_kept (map plain_mem c.args.mems.now) c.args.written in
    let e : memories_in k (plain_node c.args.node.now) ≡ [] = ap (λ n. memories_in k (plain_node n)) c.in-Store.is in
    rw e (grind (arith, common_steps))

pub returns-in-Sparse : goal.returns-in-Sparse
unfolding memories_in
returns-in-Sparse t c =
    let k = is_kept (map plain_mem c.args.mems.now) c.args.written in
    let e : memories_in k (plain_node c.args.node.now) ≡ [] = ap (λ n. memories_in k (plain_node n)) c.in-Sparse.is in
    rw e (grind (arith, common_steps))
