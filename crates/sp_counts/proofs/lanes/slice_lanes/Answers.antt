use Rattle.std.proofs.Common.{◌+◌, ◌*◌, arith, ap, sym, ◌∙◌, drop, map}
use Rattle.sp_tree.specs.PlainTree.{plain_span}
use Rattle.sp_tree.specs.Structure.{slice_lanes}
use Rattle.sp_counts.specs.Capped.{capped}
use Rattle.sp_counts.proofs.CappedLemmas.{capped_times_both, first_span}
use Rattle.sp_counts.proofs.Remaining.{next_of}
use Rattle.sp_counts.proofs.lanes.slice_lanes.Goals as goal

pub loop-span-preserved : goal.loop-span-preserved
loop-span-preserved c =
    let s = next_of c.args.spans.now c.loop-span.span-index c.span-item.result c.loop-span-test.true c.span-item.is in
    let rest = map plain_span (drop (c.loop-span.span-index + 1) c.args.spans.now) in (
      omega arith,
      ap (λ x. capped (x * slice_lanes rest)) c.saturating_mul-lanes.ensures
          ∙ capped_times_both c.loop-span.lanes c.span_lanes.result (slice_lanes rest)
          ∙ ap (λ x. capped (c.loop-span.lanes * (x * slice_lanes rest))) c.span_lanes.ensures
          ∙ ap (λ x. capped (c.loop-span.lanes * x)) (sym (first_span (plain_span c.span-item.result) rest))
          ∙ ap (λ xs. capped (c.loop-span.lanes * slice_lanes (map plain_span xs))) (sym s)
          ∙ c.loop-span.invariant.1,
    )
