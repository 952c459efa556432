use Rattle.std.proofs.Common.{◌*◌, ap, ◌∙◌, map}
use Rattle.sp_words.specs.Interface.{word_count}
use Rattle.sp_tree.specs.Expressions.{dims}
use Rattle.sp_tree.specs.Plain.{plain_mem}
use Rattle.sp_counts.specs.Capped.{capped}
use Rattle.sp_counts.proofs.CappedLemmas.{capped_times}
use Rattle.sp_counts.proofs.words.copied_words.Goals as goal

pub returns : goal.returns
returns c =
    let words = word_count (dims (map plain_mem c.args.mems.now) c.args.copies.now.mem) in
    c.saturating_mul-2.ensures
    ∙ ap (λ x. capped (x * c.readers_of.result)) (c.saturating_mul.ensures ∙ ap (λ x. capped (x * c.args.copies.now.factor)) c.words_of.ensures ∙ capped_times words c.args.copies.now.factor)
    ∙ capped_times (words * c.args.copies.now.factor) c.readers_of.result
    ∙ ap (λ r. capped (words * c.args.copies.now.factor * r)) c.readers_of.ensures
