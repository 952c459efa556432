use Rattle.std.proofs.Common.{[], ap, ◌∙◌}
use Rattle.sp_words.specs.declared.types.Ty.TheVariants.{Bit}
use Rattle.sp_words.specs.Words.{word_lt, word_not}
use Rattle.sp_gates.proofs.Growing.{Fills-join}
use Rattle.sp_gates.proofs.Running.{runs_earlier}
use Rattle.sp_pipe.proofs.BitLemmas.{turned_bit}
use Rattle.sp_pipe.proofs.operators.not_less.Goals as goal

pub returns-clause-fills : goal.returns-clause-fills
returns-clause-fills c = Fills-join _ _ _ [] [] c.in_ok-less.ensures.fills c.in_ok-net.ensures.fills

pub returns-clause-word : goal.returns-clause-word
returns-clause-word c = λ s r t.
    let before = runs_earlier _ _ s c.in_ok-net.ensures.fills.grows r in
    c.in_ok-net.ensures.word s r t ∙ ap (word_not Bit) (c.in_ok-less.ensures.word s before t) ∙ turned_bit (word_lt c.args.ty (s.net t c.args.a) (s.net t c.args.b))
