use Rattle.std.proofs.Common.{◌≡◌, ◌++◌, ◌+◌, ◌∷◌, [], true, false, None, drop, map, arith, sym, ap, ◌∙◌}
use Rattle.std.specs.Option.{option_map}
use Rattle.std.proofs.lemmas.Grind.{common_steps}
use Rattle.std.proofs.lemmas.List.{drop_more}
use Rattle.sp_core.specs.Around.{lanes_of}
use Rattle.sp_core.specs.Plain.{plain_counter, plain_node, plain_ops, plain_span, plain_stage_list}
use Rattle.sp_core.specs.PlainCore.{inner, outer, fsm, branch, load, store, sparse}
use Rattle.sp_lanes.specs.Unrolled.{owned_in_lanes, inner_ops, node_in, nodes_in, left_as_they_are, stages_in, stage_after, combination_in, combination_of}
use Rattle.sp_lanes.specs.Within.{Within, owning, in_lane, ops_in, counters_in, spans_in}
use Rattle.sp_unroll.specs.Entries.{within_of}
use Rattle.sp_unroll.specs.Stages.{onto, lane_stages, outer_stages}
use Rattle.sp_unroll.proofs.TreeLemmas.{plain_outer}
use Rattle.sp_unroll.proofs.NodeLemmas.{onto_none, onto_all, stage_left, lane_skips, lane_taken, lane_next, inner_made, outer_made, fsm_made, branch_made, load_made, store_made, sparse_made, one_lane, more_lanes}
use Rattle.sp_unroll.proofs.nodes.+nodes.Goals as goal
use Rattle.sp_unroll.proofs.nodes.+nodes.Goals.{push_lane-then-not-stage+in_ok-node+in_ok-push, push_lane-else-not-stage}

pub node_in-returns-in_ok-made-in-Inner : goal.node_in-returns-in_ok-made-in-Inner
node_in-returns-in_ok-made-in-Inner t c =
    let w = within_of c.args.order.now c.args.w.now in
    let counters = map plain_counter c.in-Inner.counters.items in
    let e : node_in c.args.order.now w (plain_node c.args.node.now) ≡ inner (counters_in w counters) (owned_in_lanes c.args.order.now counters c.in-Inner.owned.items w) (inner_ops c.args.order.now w counters c.in-Inner.owned.items (plain_ops c.in-Inner.ops.items) c.in-Inner.comb) None =
    ap (λ n. node_in c.args.order.now w (plain_node n)) c.in-Inner.is ∙ inner_made c.args.order.now w counters c.in-Inner.owned.items (plain_ops c.in-Inner.ops.items) c.in-Inner.comb in
    rw e (grind (arith, common_steps))

pub node_in-returns-in_ok-made-in-Outer : goal.node_in-returns-in_ok-made-in-Outer
node_in-returns-in_ok-made-in-Outer t c =
    let w = within_of c.args.order.now c.args.w.now in
    let counters = map plain_counter c.in-Outer.counters.items in
    let owned = c.in-Outer.owned.items in
    let e : node_in c.args.order.now w (plain_node c.args.node.now) ≡ outer (counters_in w counters) c.in-Outer.style (owned_in_lanes c.args.order.now counters owned w) (outer_stages c.args.order.now w counters owned (plain_stage_list c.in-Outer.stages.items)) =
    ap (λ n. node_in c.args.order.now w (plain_node n)) c.in-Outer.is
    ∙ ap (node_in c.args.order.now w) (plain_outer c.in-Outer.counters c.in-Outer.style c.in-Outer.owned c.in-Outer.stages)
    ∙ outer_made c.args.order.now w counters owned c.in-Outer.style (plain_stage_list c.in-Outer.stages.items) in
    rw e (grind (arith, common_steps))

pub node_in-returns-in_ok-made-in-Fsm : goal.node_in-returns-in_ok-made-in-Fsm
node_in-returns-in_ok-made-in-Fsm t c =
    let order = c.args.order.now in
    let w = within_of order c.args.w.now in
    let start = plain_ops c.in-Fsm.start.items in
    let test = plain_ops c.in-Fsm.test.items in
    let next = plain_ops c.in-Fsm.next.items in
    let body = plain_node c.in-Fsm.body.value in
    let inside = owning order (c.in-Fsm.state ∷ []) w in
    let e : node_in order w (plain_node c.args.node.now) ≡ fsm (ops_in w start) (inside.number c.in-Fsm.state) (ops_in inside test) (node_in order inside body) (ops_in inside next) =
    ap (λ n. node_in order w (plain_node n)) c.in-Fsm.is ∙ fsm_made order w start c.in-Fsm.state test body next in
    rw e (grind (arith, common_steps))

pub node_in-returns-in_ok-made-in-Branch : goal.node_in-returns-in_ok-made-in-Branch
node_in-returns-in_ok-made-in-Branch t c =
    let w = within_of c.args.order.now c.args.w.now in
    let test = plain_ops c.in-Branch.test.items in
    let e : node_in c.args.order.now w (plain_node c.args.node.now) ≡ branch (ops_in w test) (node_in c.args.order.now w (plain_node c.in-Branch.yes.value)) (node_in c.args.order.now w (plain_node c.in-Branch.no.value)) =
    ap (λ n. node_in c.args.order.now w (plain_node n)) c.in-Branch.is ∙ branch_made c.args.order.now w test (plain_node c.in-Branch.yes.value) (plain_node c.in-Branch.no.value) in
    rw e (grind (arith, common_steps))

pub node_in-returns-in_ok-made-in-Load : goal.node_in-returns-in_ok-made-in-Load
node_in-returns-in_ok-made-in-Load t c =
    let w = within_of c.args.order.now c.args.w.now in
    let spans = map plain_span c.in-Load.span.items in
    let e : node_in c.args.order.now w (plain_node c.args.node.now) ≡ load c.in-Load.dram (w.number c.in-Load.mem) (spans_in w spans) =
    ap (λ n. node_in c.args.order.now w (plain_node n)) c.in-Load.is ∙ load_made c.args.order.now w c.in-Load.dram c.in-Load.mem spans in
    rw e (grind (arith, common_steps))

pub node_in-returns-in_ok-made-in-Store : goal.node_in-returns-in_ok-made-in-Store
node_in-returns-in_ok-made-in-Store t c =
    let w = within_of c.args.order.now c.args.w.now in
    let spans = map plain_span c.in-Store.span.items in
    let e : node_in c.args.order.now w (plain_node c.args.node.now) ≡ store c.in-Store.dram (w.number c.in-Store.mem) (spans_in w spans) =
    ap (λ n. node_in c.args.order.now w (plain_node n)) c.in-Store.is ∙ store_made c.args.order.now w c.in-Store.dram c.in-Store.mem spans in
    rw e (grind (arith, common_steps))

pub node_in-returns-in_ok-made-in-Sparse : goal.node_in-returns-in_ok-made-in-Sparse
node_in-returns-in_ok-made-in-Sparse t c =
    let w = within_of c.args.order.now c.args.w.now in
    let spans = map plain_span c.in-Sparse.span.items in
    let count = plain_ops c.in-Sparse.count.items in
    let e : node_in c.args.order.now w (plain_node c.args.node.now) ≡ sparse c.in-Sparse.kind c.in-Sparse.dram (w.number c.in-Sparse.mem) (option_map w.number c.in-Sparse.index) (spans_in w spans) (ops_in w count) c.in-Sparse.par =
    ap (λ n. node_in c.args.order.now w (plain_node n)) c.in-Sparse.is ∙ sparse_made c.args.order.now w c.in-Sparse.kind c.in-Sparse.dram c.in-Sparse.mem c.in-Sparse.index spans count c.in-Sparse.par in
    rw e (grind (arith, common_steps))

pub outer_stages-returns-then-lanes-eq1 : goal.outer_stages-returns-then-lanes-eq1
outer_stages-returns-then-lanes-eq1 t c =
    let order = c.args.order.now in
    let w = within_of order c.args.w.now in
    let counters = map plain_counter c.args.counters.now in
    let stages = plain_stage_list c.args.stages.now in
    c.in_ok-all.ensures
    ∙ ap (λ (v : Within). left_as_they_are order v stages) {y = in_lane order counters c.args.owned.now w 0} c.in_ok-inside.ensures
    ∙ one_lane order w counters c.args.owned.now c.lanes_of-lanes.result stages c.lanes_of-lanes.ensures c.if-lanes-eq1.true

pub outer_stages-loop-lane-init : goal.outer_stages-loop-lane-init
outer_stages-loop-lane-init t c = λ rest. ap (λ l. onto l rest) c.new-out.ensures.items ∙ onto_none rest

pub outer_stages-loop-lane-preserved : goal.outer_stages-loop-lane-preserved
outer_stages-loop-lane-preserved t c = λ rest.
    let order = c.args.order.now in
    let w = within_of order c.args.w.now in
    let counters = map plain_counter c.args.counters.now in
    let stages = plain_stage_list c.args.stages.now in
    let lane = c.loop-lane.lane in
    let was = c.loop-lane.out.items in
    c.in_ok-push_lane.ensures rest
    ∙ ap (λ (v : Within). onto was (stages_in lane (nodes_in order v stages) rest)) {y = in_lane order counters c.args.owned.now w lane} c.in_ok-inside-2.ensures
    ∙ c.loop-lane.invariant (stages_in lane (nodes_in order (in_lane order counters c.args.owned.now w lane) stages) rest)
    ∙ lane_next order w counters c.args.owned.now lane stages rest

pub outer_stages-returns : goal.outer_stages-returns
outer_stages-returns t c =
    let order = c.args.order.now in
    let w = within_of order c.args.w.now in
    let counters = map plain_counter c.args.counters.now in
    let owned = c.args.owned.now in
    let stages = plain_stage_list c.args.stages.now in
    let after = stage_after (lanes_of counters) (option_map (combination_in order w counters owned) (combination_of stages)) in
    let e : c.loop-lane.lane ≡ c.lanes_of-lanes.result = omega (arith, c.loop-lane-test.false, c.loop-lane.auto.lane-end) in
    onto_all c.push_combination.new.out.items
    ∙ c.in_ok-push_combination.ensures
    ∙ c.loop-lane.invariant after
    ∙ ap (λ n. lane_stages order w counters owned n stages after) e
    ∙ more_lanes order w counters owned c.lanes_of-lanes.result stages c.lanes_of-lanes.ensures c.if-lanes-eq1.false

pub left_as_they_are-loop-stage-init : goal.left_as_they_are-loop-stage-init
left_as_they_are-loop-stage-init t c =
    let all = left_as_they_are c.args.order.now (within_of c.args.order.now c.args.w.now) (plain_stage_list c.args.stages.now) in
    ap (λ l. onto l all) c.new-out.ensures.items ∙ onto_none all

pub left_as_they_are-loop-stage-preserved : goal.left_as_they_are-loop-stage-preserved
left_as_they_are-loop-stage-preserved t c =
    let stages = c.args.stages.now in
    let i = c.loop-stage.stage-index in
    let s = c.stage-item.result in
    let node = c.in_ok-node.node in
    let made = c.loop-stage.out.items in
    let d : drop i stages ≡ s ∷ drop (i + 1) stages = drop_more stages i s c.loop-stage-test.true ∙ ap (λ x. x ∷ drop (i + 1) stages) (sym c.stage-item.is) in
    let e : c.push.new.self.items ≡ made ++ record { first = s.first; last = s.last; comb = s.comb; node = node } ∷ [] = grind (arith, common_steps) in
    stage_left c.args.order.now (within_of c.args.order.now c.args.w.now) made c.push.new.self.items stages s node i d c.in_ok-node.ensures e ∙ c.loop-stage.invariant

pub left_as_they_are-returns : goal.left_as_they_are-returns
unfolding left_as_they_are
left_as_they_are-returns t c =
    let w = within_of c.args.order.now c.args.w.now in
    let out = c.loop-stage.out.items in
    let d : drop c.loop-stage.stage-index c.args.stages.now ≡ [] = grind (arith, common_steps) in
    onto_all out ∙ sym (ap (λ l. onto out (left_as_they_are c.args.order.now w (plain_stage_list l))) d) ∙ c.loop-stage.invariant

pub push_lane-returns : goal.push_lane-returns
unfolding nodes_in
push_lane-returns t c = λ rest.
    let w = within_of c.args.order.now c.args.w.now in
    let out = c.loop-stage.out.items in
    let d : drop c.loop-stage.stage-index c.args.stages.now ≡ [] = grind (arith, common_steps) in
    sym (ap (λ l. onto out (stages_in c.args.lane (nodes_in c.args.order.now w (plain_stage_list l)) rest)) d) ∙ c.loop-stage.invariant rest

pub push_lane-loop-stage-preserved : goal.push_lane-loop-stage-preserved
push_lane-loop-stage-preserved t c = λ rest.
    let order = c.args.order.now in
    let w = within_of order c.args.w.now in
    let lane = c.args.lane in
    let stages = c.args.stages.now in
    let i = c.loop-stage.stage-index in
    let s = c.stage-item.result in
    let made = c.loop-stage.out.items in
    let after = c.if-not-stage.out.items in
    let d : drop i stages ≡ s ∷ drop (i + 1) stages = drop_more stages i s c.loop-stage-test.true ∙ ap (λ x. x ∷ drop (i + 1) stages) (sym c.stage-item.is) in
    elim c.if-not-stage.branch [
      | push_lane-then-not-stage+in_ok-node+in_ok-push v ↦
          let node = v.in_ok-node.node in
          let b : s.comb ≡ false = grind (arith, common_steps) in
          let e : after ≡ made ++ record { first = lane; last = lane; comb = false; node = node } ∷ [] = grind (arith, common_steps) in
          lane_taken order w made after stages s node i lane rest d b v.in_ok-node.ensures e ∙ c.loop-stage.invariant rest
      | push_lane-else-not-stage v ↦
          let b : s.comb ≡ true = grind (arith, common_steps) in
          let e : after ≡ made = grind (arith, common_steps) in
          ap (λ l. onto l (stages_in lane (nodes_in order w (plain_stage_list (drop (i + 1) stages))) rest)) e
          ∙ ap (onto made) (lane_skips order w stages s i lane rest d b)
          ∙ c.loop-stage.invariant rest
    ]
