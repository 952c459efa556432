use Rattle.std.proofs.Common.{◌-◌, ◌^◌, min, ap, sym, ◌∙◌, take}
use Rattle.sp_words.specs.Interface.{word_count}
use Rattle.sp_netlist.proofs.CheckLemmas.{capped_times, word_count-more}
use Rattle.sp_netlist.proofs.check.capped_size.Goals as goal

pub loop-dim-preserved : goal.loop-dim-preserved
loop-dim-preserved c =
    c.saturating_mul-size.ensures ∙ capped_times (2 ^ 64 - 1) c.loop-dim.size (word_count (take c.loop-dim.dim-index c.args.dims.now)) _ c.loop-dim.invariant
    ∙ ap (λ n. min n (2 ^ 64 - 1)) (sym (word_count-more c.args.dims.now c.loop-dim.dim-index _ c.loop-dim-test.true c.from.ensures))
