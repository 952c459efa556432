use Rattle.std.proofs.Common.{◌+◌, ◌*◌, arith, ap, sym, ◌∙◌, drop, get_or}
use Rattle.std.proofs.lemmas.List.{drop_more}
use Rattle.sp_words.specs.Interface.{word_count}
use Rattle.sp_counts.specs.Capped.{capped}
use Rattle.sp_counts.proofs.CappedLemmas.{capped_times_both}
use Rattle.sp_counts.proofs.words.word_count.Goals as goal

pub loop-d-preserved : goal.loop-d-preserved
loop-d-preserved c =
    let s = drop_more c.args.dims.now c.loop-d.d-index 0 c.loop-d-test.true in
    let rest = word_count (drop (c.loop-d.d-index + 1) c.args.dims.now) in (
      omega arith,
      ap (λ x. capped (x * rest)) c.saturating_mul-count.ensures
          ∙ capped_times_both c.loop-d.count (get_or c.args.dims.now c.loop-d.d-index 0) rest
          ∙ ap (λ xs. capped (c.loop-d.count * word_count xs)) (sym s)
          ∙ c.loop-d.invariant.1,
    )
