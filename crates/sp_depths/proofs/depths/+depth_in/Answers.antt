use Rattle.std.proofs.Common.{suc, map, max, arith, ap, sym, ◌∙◌, add-one}
use Rattle.std.specs.Prelude.{◌&&◌, not, slice_index_or}
use Rattle.sp_core.specs.CoreParts.{plain_core}
use Rattle.sp_core.specs.Declarations.{is_among, is_stream}
use Rattle.sp_core.specs.Numbering.{node_count, node_count_in}
use Rattle.sp_core.specs.Plain.{plain_counter, plain_node, plain_stage_list}
use Rattle.sp_depths.proofs.Outer.{by_loop, by_stages}
use Rattle.sp_depths.specs.Depths.{depth_in_stages}
use Rattle.sp_plan.proofs.RunLists.{drop_past}
use Rattle.sp_plan.proofs.Trees.{plain_outer}
use Rattle.sp_plan.specs.Copies.{is_loop, copies}
use Rattle.sp_plan.specs.Plain.{plain_node_plan}
use Rattle.sp_plan.specs.PlainPlan.{other_plan}
use Rattle.sp_depths.proofs.depths.+depth_in.Goals as goal

pub returns-then-copies_it : goal.returns-then-copies_it
returns-then-copies_it t c =
    let core = plain_core c.args.core.now in
    let nodes = map plain_node_plan c.args.nodes.now in
    let counters = map plain_counter c.in-Outer.counters.items in
    let stages = plain_stage_list c.in-Outer.stages.items in
    let is = ap plain_node c.in-Outer.is ∙ plain_outer c.in-Outer.counters c.in-Outer.style c.in-Outer.owned c.in-Outer.stages in
    let test =
    ap (λ xs. (is_loop (map plain_counter xs) && not (is_stream c.in-Outer.style)) && is_among c.args.m c.deref-in-Outer.result.now) c.deref.ensures.value
    ∙ ap (λ xs. (is_loop counters && not (is_stream c.in-Outer.style)) && is_among c.args.m xs) c.deref-in-Outer.ensures.value in
    c.copies_at.ensures
    ∙ ap (λ xs. copies core c.args.m (plain_stage_list xs) (slice_index_or nodes c.args.k other_plan)) c.deref-then-copies_it.ensures.value
    ∙ by_loop core nodes c.args.m c.args.k (plain_node c.args.node.now) counters c.in-Outer.style c.in-Outer.owned.items stages is (sym test ∙ sym c.copies_it.ensures ∙ c.if-copies_it.true)

pub loop-stage-init : goal.loop-stage-init
loop-stage-init t c =
    let whole = ap node_count (ap plain_node c.in-Outer.is ∙ plain_outer c.in-Outer.counters c.in-Outer.style c.in-Outer.owned c.in-Outer.stages) in
    let count = ap (λ xs. node_count_in (plain_stage_list xs)) c.deref-stage-items.ensures.value in (
      ap (λ k. max 1 (depth_in_stages (plain_core c.args.core.now) (map plain_node_plan c.args.nodes.now) c.args.m k (plain_stage_list c.deref-stage-items.result.now))) (add-one c.args.k),
      omega arith,
      omega (arith, whole, count),
    )

pub returns-after-loop-stage : goal.returns-after-loop-stage
returns-after-loop-stage t c =
    let core = plain_core c.args.core.now in
    let nodes = map plain_node_plan c.args.nodes.now in
    let counters = map plain_counter c.in-Outer.counters.items in
    let stages = plain_stage_list c.in-Outer.stages.items in
    let is = ap plain_node c.in-Outer.is ∙ plain_outer c.in-Outer.counters c.in-Outer.style c.in-Outer.owned c.in-Outer.stages in
    let test =
    ap (λ xs. (is_loop (map plain_counter xs) && not (is_stream c.in-Outer.style)) && is_among c.args.m c.deref-in-Outer.result.now) c.deref.ensures.value
    ∙ ap (λ xs. (is_loop counters && not (is_stream c.in-Outer.style)) && is_among c.args.m xs) c.deref-in-Outer.ensures.value in
    let none = ap plain_stage_list (drop_past c.deref-stage-items.result.now c.loop-stage.stage-index (omega (arith, c.loop-stage-test.false))) in
    let kept = c.loop-stage.invariant in
    by_stages core nodes c.args.m c.args.k (plain_node c.args.node.now) counters c.in-Outer.style c.in-Outer.owned.items stages is (sym test ∙ sym c.copies_it.ensures ∙ c.if-copies_it.false) c.loop-stage.most kept.1
    (sym (ap (λ x. max c.loop-stage.most (depth_in_stages core nodes c.args.m c.loop-stage.next x)) none) ∙ kept.0
    ∙ ap (λ xs. max 1 (depth_in_stages core nodes c.args.m (suc c.args.k) (plain_stage_list xs))) c.deref-stage-items.ensures.value)
