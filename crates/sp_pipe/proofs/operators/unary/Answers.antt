use Rattle.std.proofs.Common.{sym, ap}
use Rattle.sp_core.specs.Operators.{one_word}
use Rattle.sp_words.specs.declared.kind.UnOp.TheVariants as unary
use Rattle.sp_pipe.proofs.BitLemmas.{other_word}
use Rattle.sp_pipe.proofs.operators.unary.Goals as goal

pub returns-in-Neg-clause-word : goal.returns-in-Neg-clause-word
returns-in-Neg-clause-word c = other_word c.negative.result c.negative.new.builder (λ s t. one_word unary.Neg c.args.ty (s.net t c.args.a)) (λ s t. one_word c.args.op c.args.ty (s.net t c.args.a))
    (λ s t. ap (λ o. one_word o c.args.ty (s.net t c.args.a)) (sym c.in-Neg.is)) c.negative.ensures.word

pub returns-in-Not-clause-word : goal.returns-in-Not-clause-word
returns-in-Not-clause-word c = other_word c.invert.result c.invert.new.builder (λ s t. one_word unary.Not c.args.ty (s.net t c.args.a)) (λ s t. one_word c.args.op c.args.ty (s.net t c.args.a))
    (λ s t. ap (λ o. one_word o c.args.ty (s.net t c.args.a)) (sym c.in-Not.is)) c.invert.ensures.word
