use Rattle.std.proofs.Common.{◌-◌, ◌^◌, min, ap, sym, ◌∙◌, take}
use Rattle.sp_words.specs.Interface.{word_count}
use Rattle.sp_sim.proofs.Counted.{capped_times, word_count-more}
use Rattle.sp_sim.proofs.given.capped_count.Goals as goal

pub loop-dim-preserved : goal.loop-dim-preserved
loop-dim-preserved c =
    c.saturating_mul-count.ensures ∙ capped_times (2 ^ 128 - 1) c.loop-dim.count (word_count (take c.loop-dim.dim-index c.args.dims.now)) _ c.loop-dim.invariant
    ∙ ap (λ n. min n (2 ^ 128 - 1)) (sym (word_count-more c.args.dims.now c.loop-dim.dim-index _ c.loop-dim-test.true c.from.ensures))
