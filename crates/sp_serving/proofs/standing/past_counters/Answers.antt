use Rattle.std.proofs.Common.{◌+◌, ◌∷◌, map, drop, ap, sym, ◌∙◌}
use Rattle.std.proofs.lemmas.List.{drop_more}
use Rattle.sp_core.specs.Numbered.{list_numbers, counters_numbers}
use Rattle.sp_core.specs.Plain.{plain_op, plain_counter}
use Rattle.sp_serving.proofs.Counting.{passed_counter}
use Rattle.sp_serving.proofs.standing.past_counters.Goals as goal
use Rattle.sp_serving.specs.Standing.{passed}

pub loop-counter-preserved : goal.loop-counter-preserved
loop-counter-preserved c =
    let xs = c.args.counters.now in
    let p = c.loop-counter.p in
    let item = c.counter-item.result in
    let rest = drop (c.loop-counter.counter-index + 1) xs in
    let s = drop_more xs c.loop-counter.counter-index item c.loop-counter-test.true ∙ ap (λ x. x ∷ rest) (sym c.counter-item.is) in
    let begins = c.past_ops.ensures ∙ ap (λ ys. passed p (list_numbers (map plain_op ys))) c.deref.ensures.value in
    let ends = c.past_ops-p.ensures ∙ ap (λ ys. passed c.past_ops.result (list_numbers (map plain_op ys))) c.deref-in-loop-counter.ensures.value in
    sym (ap (λ ys. passed p (counters_numbers (map plain_counter ys))) s
    ∙ passed_counter p c.past_ops.result c.past_ops-p.result (plain_counter item) (map plain_counter rest) begins ends)
    ∙ c.loop-counter.invariant
