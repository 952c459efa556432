use Rattle.std.proofs.Common.{◌<◌, length, arith, sym, ap, ◌∙◌, ◌++◌, ◌∷◌, [], take}
use Rattle.std.proofs.lemmas.List.{take_more}
use Rattle.sp_sim.proofs.RowLemmas.{read_at}
use Rattle.sp_sim.proofs.memory.Memory.contents.Goals as goal

pub loop-i-preserved : goal.loop-i-preserved
loop-i-preserved c =
    let ws = c.self.inside.words.numbers in
    let within : c.loop-i.i < length ws = omega arith in
    let here = read_at ws c.loop-i.i c.get.result c.get.ensures.number in
    let more = take_more ws c.loop-i.i 0 within in
    c.in_ok-push.ensures.items ∙ ap (λ xs. xs ++ c.get.result ∷ []) c.loop-i.invariant ∙ ap (λ x. take c.loop-i.i ws ++ x ∷ []) (sym here) ∙ sym more
