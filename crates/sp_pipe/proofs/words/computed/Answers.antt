use Rattle.std.proofs.Common.{◌+◌, length, map, refl, ap, sym, subst, ◌∙◌, arith}
use Rattle.sp_core.specs.Operators.{one_word}
use Rattle.sp_gates.specs.Nets.{HasNet}
use Rattle.sp_gates.proofs.Growing.{Fills-none}
use Rattle.sp_pipe.specs.declared.part.Act.TheVariants as act
use Rattle.sp_pipe.specs.Right.{ActFits}
use Rattle.sp_pipe.specs.Values.{given_width, taken_width}
use Rattle.sp_pipe.proofs.Computing.{operand_word, operand_net, taken_count, word_by, chosen_word}
use Rattle.sp_pipe.proofs.words.computed.Goals as goal

pub returns-in-Given-clause-fills : goal.returns-in-Given-clause-fills
returns-in-Given-clause-fills c = Fills-none _

pub returns-in-Read-clause-fills : goal.returns-in-Read-clause-fills
returns-in-Read-clause-fills c = Fills-none _

pub returns-in-Deq-clause-fills : goal.returns-in-Deq-clause-fills
returns-in-Deq-clause-fills c = Fills-none _

pub unary-requires : goal.unary-requires
unary-requires c =
    let n = taken_count c.args.op.now.act (act.One c.in-One.unary_op) (length c.args.operands.now) 1 c.requires.count c.in-One.is refl in
    operand_net c.args.operands.now 0 _ (omega (arith, n)) c.index-operands-0.is _ c.args.op.now.act c.args.op.now.ty c.requires.nets _ (ap (λ a. taken_width a c.args.op.now.ty (length c.args.operands.now) 0) c.in-One.is)

pub binary-requires-clause-left : goal.binary-requires-clause-left
binary-requires-clause-left c =
    let n = taken_count c.args.op.now.act (act.Two c.in-Two.binary_op) (length c.args.operands.now) 2 c.requires.count c.in-Two.is refl in
    operand_net c.args.operands.now 0 _ (omega (arith, n)) c.index-operands-0-in-Two.is _ c.args.op.now.act c.args.op.now.ty c.requires.nets _ (ap (λ a. taken_width a c.args.op.now.ty (length c.args.operands.now) 0) c.in-Two.is)

pub binary-requires-clause-right : goal.binary-requires-clause-right
binary-requires-clause-right c =
    let n = taken_count c.args.op.now.act (act.Two c.in-Two.binary_op) (length c.args.operands.now) 2 c.requires.count c.in-Two.is refl in
    operand_net c.args.operands.now 1 _ (omega (arith, n)) c.index-operands-1.is _ c.args.op.now.act c.args.op.now.ty c.requires.nets _ (ap (λ a. taken_width a c.args.op.now.ty (length c.args.operands.now) 1) c.in-Two.is)

pub shifted-requires-clause-operand : goal.shifted-requires-clause-operand
shifted-requires-clause-operand c =
    let n = taken_count c.args.op.now.act (act.Shift c.in-Shift.left c.in-Shift.by) (length c.args.operands.now) 1 c.requires.count c.in-Shift.is refl in
    operand_net c.args.operands.now 0 _ (omega (arith, n)) c.index-operands-0-in-Shift.is _ c.args.op.now.act c.args.op.now.ty c.requires.nets _ (ap (λ a. taken_width a c.args.op.now.ty (length c.args.operands.now) 0) c.in-Shift.is)

pub choose-requires-clause-choice : goal.choose-requires-clause-choice
choose-requires-clause-choice c =
    let n = taken_count c.args.op.now.act (act.Mux) (length c.args.operands.now) 3 c.requires.count c.in-Mux.is refl in
    operand_net c.args.operands.now 0 _ (omega (arith, n)) c.index-operands-0-in-Mux.is _ c.args.op.now.act c.args.op.now.ty c.requires.nets _ (ap (λ a. taken_width a c.args.op.now.ty (length c.args.operands.now) 0) c.in-Mux.is)

pub choose-requires-clause-left : goal.choose-requires-clause-left
choose-requires-clause-left c =
    let n = taken_count c.args.op.now.act act.Mux (length c.args.operands.now) 3 c.requires.count c.in-Mux.is refl in
    operand_net c.args.operands.now 1 _ (omega (arith, n)) c.index-operands-1-in-Mux.is _ c.args.op.now.act c.args.op.now.ty c.requires.nets _ (ap (λ a. taken_width a c.args.op.now.ty (length c.args.operands.now) 1) c.in-Mux.is ∙ sym c.width-width.ensures.value)

pub choose-requires-clause-right : goal.choose-requires-clause-right
choose-requires-clause-right c =
    let n = taken_count c.args.op.now.act act.Mux (length c.args.operands.now) 3 c.requires.count c.in-Mux.is refl in
    operand_net c.args.operands.now 2 _ (omega (arith, n)) c.index-operands-2.is _ c.args.op.now.act c.args.op.now.ty c.requires.nets _ (ap (λ a. taken_width a c.args.op.now.ty (length c.args.operands.now) 2) c.in-Mux.is ∙ sym c.width-width.ensures.value)

pub cast-requires : goal.cast-requires
cast-requires c =
    let n = taken_count c.args.op.now.act (act.Cast c.in-Cast.to) (length c.args.operands.now) 1 c.requires.count c.in-Cast.is refl in
    record { operand = operand_net c.args.operands.now 0 _ (omega (arith, n)) c.index-operands-0-in-Cast.is _ c.args.op.now.act c.args.op.now.ty c.requires.nets _ (ap (λ a. taken_width a c.args.op.now.ty (length c.args.operands.now) 0) c.in-Cast.is) }

pub returns-in_ok-net-in-One-clause-word : goal.returns-in_ok-net-in-One-clause-word
returns-in_ok-net-in-One-clause-word c = λ gives s r u.
    let n = taken_count c.args.op.now.act (act.One c.in-One.unary_op) (length c.args.operands.now) 1 c.requires.count c.in-One.is refl in
    word_by s u c.args.op.now.ty c.args.op.now.time _ (map (s.net (u + c.args.op.now.time)) c.args.operands.now) c.args.op.now.act (act.One c.in-One.unary_op) c.in-One.is
    (c.in_ok-net-in-One.ensures.word s r (u + c.args.op.now.time) ∙ ap (one_word c.in-One.unary_op c.args.op.now.ty) (operand_word c.args.operands.now 0 _ (omega (arith, n)) c.index-operands-0.is (s.net (u + c.args.op.now.time))))

pub returns-in_ok-net-in-Mux-clause-word : goal.returns-in_ok-net-in-Mux-clause-word
returns-in_ok-net-in-Mux-clause-word c = λ gives s r u.
    let n = taken_count c.args.op.now.act act.Mux (length c.args.operands.now) 3 c.requires.count c.in-Mux.is refl in
    word_by s u c.args.op.now.ty c.args.op.now.time _ (map (s.net (u + c.args.op.now.time)) c.args.operands.now) c.args.op.now.act act.Mux c.in-Mux.is
    (c.in_ok-net-in-Mux.ensures.word s r (u + c.args.op.now.time)
    ∙ chosen_word _ _ _ _ _ _ (operand_word c.args.operands.now 0 _ (omega (arith, n)) c.index-operands-0-in-Mux.is (s.net (u + c.args.op.now.time)))
    (operand_word c.args.operands.now 1 _ (omega (arith, n)) c.index-operands-1-in-Mux.is (s.net (u + c.args.op.now.time))) (operand_word c.args.operands.now 2 _ (omega (arith, n)) c.index-operands-2.is (s.net (u + c.args.op.now.time))))

pub returns-in-Read-clause-net : goal.returns-in-Read-clause-net
returns-in-Read-clause-net c = λ gives. subst (λ a. HasNet c.args.builder.now c.in-Read.net (given_width a c.args.op.now.ty)) (sym c.in-Read.is) (subst (ActFits c.args.builder.now c.args.op.now.ty) c.in-Read.is c.requires.act)

pub returns-in-Deq-clause-net : goal.returns-in-Deq-clause-net
returns-in-Deq-clause-net c = λ gives. subst (λ a. HasNet c.args.builder.now c.in-Deq.net (given_width a c.args.op.now.ty)) (sym c.in-Deq.is) (subst (ActFits c.args.builder.now c.args.op.now.ty) c.in-Deq.is c.requires.act)
