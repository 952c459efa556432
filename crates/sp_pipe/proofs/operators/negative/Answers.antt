use Rattle.std.proofs.Common.{[], ap, ◌∙◌}
use Rattle.sp_words.specs.Words.{word_sub}
use Rattle.sp_gates.proofs.Growing.{Fills-join}
use Rattle.sp_gates.proofs.Running.{runs_earlier}
use Rattle.sp_pipe.proofs.operators.negative.Goals as goal

pub returns-clause-fills : goal.returns-clause-fills
returns-clause-fills c = Fills-join _ _ _ [] [] c.in_ok-zero.ensures.fills c.in_ok-net.ensures.fills

pub returns-clause-word : goal.returns-clause-word
returns-clause-word c = λ s r t.
    let before = runs_earlier _ _ s c.in_ok-net.ensures.fills.grows r in
    c.in_ok-net.ensures.word s r t ∙ ap (λ z. word_sub c.args.ty z (s.net t c.args.a)) (c.in_ok-zero.ensures.word s before t)
