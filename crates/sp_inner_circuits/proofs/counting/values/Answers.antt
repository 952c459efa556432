use Rattle.std.proofs.Common.{◌∷◌, ◌++◌, [], slice_index_or, sym, ◌∙◌, ap}
use Rattle.sp_inner_circuits.proofs.Grouping.{one_value}
use Rattle.sp_inner_circuits.proofs.counting.values.Goals as goal

pub loop-index-preserved : goal.loop-index-preserved
loop-index-preserved c =
    let n = c.index-counters-index.result in
    record {
      values = c.in_ok-push.ensures.items ∙ ap (λ xs. xs ++ (slice_index_or c.args.counters.now c.loop-index.index n).value ∷ []) c.loop-index.invariant.values ∙ sym (one_value c.args.counters.now c.loop-index.index n c.loop-index-test.true);
    }
