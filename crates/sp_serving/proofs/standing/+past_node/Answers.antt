use Rattle.std.proofs.Common.{◌+◌, ◌∷◌, map, drop, ap, sym, ◌∙◌}
use Rattle.std.proofs.lemmas.List.{drop_more}
use Rattle.sp_core.specs.Numbered.{list_numbers, counters_numbers, spans_numbers, stages_numbers, numbers}
use Rattle.sp_core.specs.Plain.{plain_op, plain_counter, plain_span, plain_node, plain_stage_list}
use Rattle.sp_plan.proofs.Trees.{plain_outer}
use Rattle.sp_serving.proofs.Counting.{passed_both, outer_passed, sparse_passed}
use Rattle.sp_serving.proofs.standing.+past_node.Goals as goal
use Rattle.sp_serving.specs.Standing.{passed}

pub loop-stage-init : goal.loop-stage-init
loop-stage-init t c =
    let is = ap plain_node c.in-Outer.is ∙ plain_outer c.in-Outer.counters c.in-Outer.style c.in-Outer.owned c.in-Outer.stages in
    ap (λ xs. passed c.past_counters-p.result (stages_numbers (plain_stage_list xs))) c.deref-stage-items.ensures.value
    ∙ outer_passed (plain_node c.args.node.now) (map plain_counter c.in-Outer.counters.items) c.in-Outer.style c.in-Outer.owned.items (plain_stage_list c.in-Outer.stages.items) c.args.before c.past_counters-p.result is
    (c.past_counters-p.ensures ∙ ap (λ xs. passed c.args.before (counters_numbers (map plain_counter xs))) c.deref-in-Outer.ensures.value)

pub returns-in-Sparse : goal.returns-in-Sparse
returns-in-Sparse t c =
    c.past-in-Sparse.ensures
    ∙ sparse_passed (plain_node c.args.node.now) c.in-Sparse.kind _ _ _ (map plain_span c.in-Sparse.span.items) (map plain_op c.in-Sparse.count.items) _ c.args.before c.past_spans-in-Sparse.result c.past_ops-in-Sparse.result
    (ap plain_node c.in-Sparse.is)
    (c.past_spans-in-Sparse.ensures ∙ ap (λ xs. passed c.args.before (spans_numbers (map plain_span xs))) c.deref-in-Sparse.ensures.value)
    (c.past_ops-in-Sparse.ensures ∙ ap (λ xs. passed c.past_spans-in-Sparse.result (list_numbers (map plain_op xs))) c.deref-in-Sparse-2.ensures.value)

pub loop-stage-preserved : goal.loop-stage-preserved
loop-stage-preserved t c =
    let xs = c.deref-stage-items.result.now in
    let p = c.loop-stage.p in
    let item = c.stage-item.result in
    let rest = drop (c.loop-stage.stage-index + 1) xs in
    let s = drop_more xs c.loop-stage.stage-index item c.loop-stage-test.true ∙ ap (λ x. x ∷ rest) (sym c.stage-item.is) in
    sym (ap (λ ys. passed p (stages_numbers (plain_stage_list ys))) s
    ∙ passed_both p (numbers (plain_node item.node)) (stages_numbers (plain_stage_list rest))
    ∙ ap (λ q. passed q (stages_numbers (plain_stage_list rest))) (sym c.past_node-p.ensures))
    ∙ c.loop-stage.invariant
