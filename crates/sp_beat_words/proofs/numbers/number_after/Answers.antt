use Rattle.std.proofs.Common.{◌==◌, if◌then◌else◌, [], ap, arith, ◌∙◌}
use Rattle.sp_words.specs.Types.{int_type}
use Rattle.sp_words.specs.Words.{word_add}
use Rattle.sp_gates.proofs.Growing.{Fills-join}
use Rattle.sp_gates.proofs.Running.{runs_earlier}
use Rattle.sp_beat_words.proofs.Counting.{next_is}
use Rattle.sp_beat_words.proofs.numbers.number_after.Goals as goal

pub returns-clause-fills : goal.returns-clause-fills
returns-clause-fills c = Fills-join _ _ _ [] _ c.in_ok-zero.ensures.fills (Fills-join _ _ _ [] _ c.in_ok-step.ensures.fills (Fills-join _ _ _ [] _ c.in_ok-sum.ensures.fills (Fills-join _ _ _ [] _ c.in_ok-last.ensures.fills (c.in_ok-net.ensures.fills))))

pub returns-clause-word : goal.returns-clause-word
returns-clause-word c = λ s r t l.
    let r_last = runs_earlier _ _ s c.in_ok-net.ensures.fills.grows r in
    let r_sum = runs_earlier _ _ s c.in_ok-last.ensures.fills.grows r_last in
    let r_step = runs_earlier _ _ s c.in_ok-sum.ensures.fills.grows r_sum in
    let r_zero = runs_earlier _ _ s c.in_ok-step.ensures.fills.grows r_step in
    next_is c.args.copies (s.net t c.args.number) (s.net t c.in_ok-net.net) (s.net t c.in_ok-last.last) (s.net t c.in_ok-zero.zero) (s.net t c.in_ok-sum.sum) (omega arith) l
    (c.in_ok-last.ensures.word s r_last t ∙ ap (λ m. if s.net t c.args.number == m then 1 else 0) c.from.ensures) (c.in_ok-zero.ensures.word s r_zero t)
    (c.in_ok-sum.ensures.word s r_sum t ∙ ap (λ ty. word_add ty (s.net t c.args.number) (s.net t c.in_ok-step.step)) c.int.ensures ∙ ap (word_add int_type (s.net t c.args.number)) (c.in_ok-step.ensures.word s r_step t))
    (c.in_ok-net.ensures.word s r t)
