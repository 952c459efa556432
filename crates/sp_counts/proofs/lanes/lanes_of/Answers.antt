use Rattle.std.proofs.Common.{◌+◌, ◌*◌, arith, ap, sym, ◌∙◌, drop, map}
use Rattle.sp_tree.specs.PlainTree.{plain_counter}
use Rattle.sp_tree.specs.Structure.{lanes_of}
use Rattle.sp_counts.specs.Capped.{capped}
use Rattle.sp_counts.proofs.CappedLemmas.{capped_times_both}
use Rattle.sp_counts.proofs.Remaining.{next_of}
use Rattle.sp_counts.proofs.lanes.lanes_of.Goals as goal

pub loop-counter-preserved : goal.loop-counter-preserved
loop-counter-preserved c =
    let s = next_of c.args.counters.now c.loop-counter.counter-index c.counter-item.result c.loop-counter-test.true c.counter-item.is in
    let rest = lanes_of (map plain_counter (drop (c.loop-counter.counter-index + 1) c.args.counters.now)) in (
      omega arith,
      ap (λ x. capped (x * rest)) c.saturating_mul-lanes.ensures
          ∙ capped_times_both c.loop-counter.lanes c.counter-item.result.par rest
          ∙ ap (λ xs. capped (c.loop-counter.lanes * lanes_of (map plain_counter xs))) (sym s)
          ∙ c.loop-counter.invariant.1,
    )
