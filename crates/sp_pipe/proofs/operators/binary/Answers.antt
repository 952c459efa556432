use Rattle.std.proofs.Common.{sym, ap, ◌∙◌}
use Rattle.sp_core.specs.Operators.{two_word}
use Rattle.sp_netlist.specs.declared.cell.CellOp.TheVariants as cell
use Rattle.sp_netlist.specs.Signals.{op_word}
use Rattle.sp_words.specs.declared.kind.BinOp.TheVariants as binary
use Rattle.sp_words.specs.Words.{word_lt, word_eq}
use Rattle.sp_pipe.proofs.BitLemmas.{chosen_bit, other_word}
use Rattle.sp_pipe.proofs.operators.binary.Goals as goal

pub returns-in-Add-clause-word : goal.returns-in-Add-clause-word
returns-in-Add-clause-word c = other_word c.operate.result c.operate.new.builder (λ s t. op_word cell.Add c.args.ty (s.net t c.args.a) (s.net t c.args.b)) (λ s t. two_word c.args.op c.args.ty (s.net t c.args.a) (s.net t c.args.b))
    (λ s t. ap (λ o. two_word o c.args.ty (s.net t c.args.a) (s.net t c.args.b)) (sym c.in-Add.is)) c.operate.ensures.word

pub returns-in-Sub-clause-word : goal.returns-in-Sub-clause-word
returns-in-Sub-clause-word c = other_word c.operate-in-Sub.result c.operate-in-Sub.new.builder (λ s t. op_word cell.Sub c.args.ty (s.net t c.args.a) (s.net t c.args.b)) (λ s t. two_word c.args.op c.args.ty (s.net t c.args.a) (s.net t c.args.b))
    (λ s t. ap (λ o. two_word o c.args.ty (s.net t c.args.a) (s.net t c.args.b)) (sym c.in-Sub.is)) c.operate-in-Sub.ensures.word

pub returns-in-Mul-clause-word : goal.returns-in-Mul-clause-word
returns-in-Mul-clause-word c = other_word c.operate-in-Mul.result c.operate-in-Mul.new.builder (λ s t. op_word cell.Mul c.args.ty (s.net t c.args.a) (s.net t c.args.b)) (λ s t. two_word c.args.op c.args.ty (s.net t c.args.a) (s.net t c.args.b))
    (λ s t. ap (λ o. two_word o c.args.ty (s.net t c.args.a) (s.net t c.args.b)) (sym c.in-Mul.is)) c.operate-in-Mul.ensures.word

pub returns-in-Div-clause-word : goal.returns-in-Div-clause-word
returns-in-Div-clause-word c = other_word c.operate-in-Div.result c.operate-in-Div.new.builder (λ s t. op_word cell.Div c.args.ty (s.net t c.args.a) (s.net t c.args.b)) (λ s t. two_word c.args.op c.args.ty (s.net t c.args.a) (s.net t c.args.b))
    (λ s t. ap (λ o. two_word o c.args.ty (s.net t c.args.a) (s.net t c.args.b)) (sym c.in-Div.is)) c.operate-in-Div.ensures.word

pub returns-in-Rem-clause-word : goal.returns-in-Rem-clause-word
returns-in-Rem-clause-word c = other_word c.operate-in-Rem.result c.operate-in-Rem.new.builder (λ s t. op_word cell.Rem c.args.ty (s.net t c.args.a) (s.net t c.args.b)) (λ s t. two_word c.args.op c.args.ty (s.net t c.args.a) (s.net t c.args.b))
    (λ s t. ap (λ o. two_word o c.args.ty (s.net t c.args.a) (s.net t c.args.b)) (sym c.in-Rem.is)) c.operate-in-Rem.ensures.word

pub returns-in-And-clause-word : goal.returns-in-And-clause-word
returns-in-And-clause-word c = other_word c.operate-in-And.result c.operate-in-And.new.builder (λ s t. op_word cell.And c.args.ty (s.net t c.args.a) (s.net t c.args.b)) (λ s t. two_word c.args.op c.args.ty (s.net t c.args.a) (s.net t c.args.b))
    (λ s t. ap (λ o. two_word o c.args.ty (s.net t c.args.a) (s.net t c.args.b)) (sym c.in-And.is)) c.operate-in-And.ensures.word

pub returns-in-Or-clause-word : goal.returns-in-Or-clause-word
returns-in-Or-clause-word c = other_word c.operate-in-Or.result c.operate-in-Or.new.builder (λ s t. op_word cell.Or c.args.ty (s.net t c.args.a) (s.net t c.args.b)) (λ s t. two_word c.args.op c.args.ty (s.net t c.args.a) (s.net t c.args.b))
    (λ s t. ap (λ o. two_word o c.args.ty (s.net t c.args.a) (s.net t c.args.b)) (sym c.in-Or.is)) c.operate-in-Or.ensures.word

pub returns-in-Xor-clause-word : goal.returns-in-Xor-clause-word
returns-in-Xor-clause-word c = other_word c.operate-in-Xor.result c.operate-in-Xor.new.builder (λ s t. op_word cell.Xor c.args.ty (s.net t c.args.a) (s.net t c.args.b)) (λ s t. two_word c.args.op c.args.ty (s.net t c.args.a) (s.net t c.args.b))
    (λ s t. ap (λ o. two_word o c.args.ty (s.net t c.args.a) (s.net t c.args.b)) (sym c.in-Xor.is)) c.operate-in-Xor.ensures.word

pub returns-in-Min-clause-word : goal.returns-in-Min-clause-word
returns-in-Min-clause-word c = other_word c.operate-in-Min.result c.operate-in-Min.new.builder (λ s t. op_word cell.Min c.args.ty (s.net t c.args.a) (s.net t c.args.b)) (λ s t. two_word c.args.op c.args.ty (s.net t c.args.a) (s.net t c.args.b))
    (λ s t. ap (λ o. two_word o c.args.ty (s.net t c.args.a) (s.net t c.args.b)) (sym c.in-Min.is)) c.operate-in-Min.ensures.word

pub returns-in-Max-clause-word : goal.returns-in-Max-clause-word
returns-in-Max-clause-word c = other_word c.operate-in-Max.result c.operate-in-Max.new.builder (λ s t. op_word cell.Max c.args.ty (s.net t c.args.a) (s.net t c.args.b)) (λ s t. two_word c.args.op c.args.ty (s.net t c.args.a) (s.net t c.args.b))
    (λ s t. ap (λ o. two_word o c.args.ty (s.net t c.args.a) (s.net t c.args.b)) (sym c.in-Max.is)) c.operate-in-Max.ensures.word

pub returns-in-Lt-clause-word : goal.returns-in-Lt-clause-word
returns-in-Lt-clause-word c = other_word c.operate-in-Lt.result c.operate-in-Lt.new.builder (λ s t. op_word cell.Lt c.args.ty (s.net t c.args.a) (s.net t c.args.b)) (λ s t. two_word c.args.op c.args.ty (s.net t c.args.a) (s.net t c.args.b))
    (λ s t. chosen_bit (word_lt c.args.ty (s.net t c.args.a) (s.net t c.args.b)) ∙ ap (λ o. two_word o c.args.ty (s.net t c.args.a) (s.net t c.args.b)) (sym c.in-Lt.is)) c.operate-in-Lt.ensures.word

pub returns-in-Gt-clause-word : goal.returns-in-Gt-clause-word
returns-in-Gt-clause-word c = other_word c.operate-in-Gt.result c.operate-in-Gt.new.builder (λ s t. op_word cell.Lt c.args.ty (s.net t c.args.b) (s.net t c.args.a)) (λ s t. two_word c.args.op c.args.ty (s.net t c.args.a) (s.net t c.args.b))
    (λ s t. chosen_bit (word_lt c.args.ty (s.net t c.args.b) (s.net t c.args.a)) ∙ ap (λ o. two_word o c.args.ty (s.net t c.args.a) (s.net t c.args.b)) (sym c.in-Gt.is)) c.operate-in-Gt.ensures.word

pub returns-in-Le-clause-word : goal.returns-in-Le-clause-word
returns-in-Le-clause-word c = other_word c.not_less.result c.not_less.new.builder (λ s t. two_word binary.Le c.args.ty (s.net t c.args.a) (s.net t c.args.b)) (λ s t. two_word c.args.op c.args.ty (s.net t c.args.a) (s.net t c.args.b))
    (λ s t. ap (λ o. two_word o c.args.ty (s.net t c.args.a) (s.net t c.args.b)) (sym c.in-Le.is)) c.not_less.ensures.word

pub returns-in-Ge-clause-word : goal.returns-in-Ge-clause-word
returns-in-Ge-clause-word c = other_word c.not_less-in-Ge.result c.not_less-in-Ge.new.builder (λ s t. two_word binary.Ge c.args.ty (s.net t c.args.a) (s.net t c.args.b)) (λ s t. two_word c.args.op c.args.ty (s.net t c.args.a) (s.net t c.args.b))
    (λ s t. ap (λ o. two_word o c.args.ty (s.net t c.args.a) (s.net t c.args.b)) (sym c.in-Ge.is)) c.not_less-in-Ge.ensures.word

pub returns-in-Eq-clause-word : goal.returns-in-Eq-clause-word
returns-in-Eq-clause-word c = other_word c.operate-in-Eq.result c.operate-in-Eq.new.builder (λ s t. op_word cell.Eq c.args.ty (s.net t c.args.a) (s.net t c.args.b)) (λ s t. two_word c.args.op c.args.ty (s.net t c.args.a) (s.net t c.args.b))
    (λ s t. chosen_bit (word_eq c.args.ty (s.net t c.args.a) (s.net t c.args.b)) ∙ ap (λ o. two_word o c.args.ty (s.net t c.args.a) (s.net t c.args.b)) (sym c.in-Eq.is)) c.operate-in-Eq.ensures.word

pub returns-in-Ne-clause-word : goal.returns-in-Ne-clause-word
returns-in-Ne-clause-word c = other_word c.unequal.result c.unequal.new.builder (λ s t. two_word binary.Ne c.args.ty (s.net t c.args.a) (s.net t c.args.b)) (λ s t. two_word c.args.op c.args.ty (s.net t c.args.a) (s.net t c.args.b))
    (λ s t. ap (λ o. two_word o c.args.ty (s.net t c.args.a) (s.net t c.args.b)) (sym c.in-Ne.is)) c.unequal.ensures.word
