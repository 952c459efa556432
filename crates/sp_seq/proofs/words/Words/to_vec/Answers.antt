use Rattle.std.proofs.Common.{◌<◌, length, arith, sym, ap, ◌∙◌, ◌++◌, ◌∷◌, [], take}
use Rattle.std.proofs.lemmas.List.{take_more}
use Rattle.sp_seq.proofs.WordLemmas.{word_at}
use Rattle.sp_seq.proofs.words.Words.to_vec.Goals as goal

pub loop-at-preserved : goal.loop-at-preserved
loop-at-preserved c =
    let ws = c.self.inside.words.numbers in
    let within : c.loop-at.at < length ws = omega arith in
    let here = word_at ws c.loop-at.at c.get.result c.get.ensures.number in
    let more = take_more ws c.loop-at.at 0 within in
    c.in_ok-push.ensures.items ∙ ap (λ xs. xs ++ c.get.result ∷ []) c.loop-at.invariant ∙ ap (λ x. take c.loop-at.at ws ++ x ∷ []) (sym here) ∙ sym more
