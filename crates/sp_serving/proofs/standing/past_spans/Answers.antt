use Rattle.std.proofs.Common.{◌+◌, ◌∷◌, map, drop, ap, sym, ◌∙◌}
use Rattle.std.proofs.lemmas.List.{drop_more}
use Rattle.sp_core.specs.Numbered.{spans_numbers}
use Rattle.sp_core.specs.Plain.{plain_span}
use Rattle.sp_serving.proofs.Counting.{passed_span}
use Rattle.sp_serving.proofs.standing.past_spans.Goals as goal
use Rattle.sp_serving.specs.Standing.{passed}

pub loop-span-preserved : goal.loop-span-preserved
loop-span-preserved c =
    let xs = c.args.spans.now in
    let p = c.loop-span.p in
    let item = c.span-item.result in
    let rest = drop (c.loop-span.span-index + 1) xs in
    let s = drop_more xs c.loop-span.span-index item c.loop-span-test.true ∙ ap (λ x. x ∷ rest) (sym c.span-item.is) in
    sym (ap (λ ys. passed p (spans_numbers (map plain_span ys))) s
    ∙ passed_span p (plain_span item) (map plain_span rest)
    ∙ ap (λ q. passed q (spans_numbers (map plain_span rest))) (sym c.past_span-p.ensures))
    ∙ c.loop-span.invariant
