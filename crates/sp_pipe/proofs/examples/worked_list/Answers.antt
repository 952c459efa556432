use Rattle.std.proofs.Common.{◌≡◌, ◌+◌, slice_index, refl, ap, subst, sym, ◌∙◌, arith}
use Rattle.sp_pipe.specs.Right.{IsTaken, OpsFit}
use Rattle.sp_pipe.specs.Values.{words_of}
use Rattle.sp_pipe.proofs.Worked.{one_fits, first_taken, first_is_seven}
use Rattle.sp_pipe.proofs.examples.worked_list.Goals as goal

pub emit_list-requires-clause-fits : goal.emit_list-requires-clause-fits
emit_list-requires-clause-fits c = subst (OpsFit c.args.builder.now) (sym (c.deref.ensures.value ∙ c.in_ok-ops.ensures.items)) (one_fits c.seven-first.result c.seven-first.ensures c.args.builder.now)

pub emit_list-requires-clause-taken : goal.emit_list-requires-clause-taken
emit_list-requires-clause-taken c = subst (λ os. IsTaken os 0 32 0) (sym (c.deref.ensures.value ∙ c.in_ok-ops.ensures.items)) (first_taken c.seven-first.result c.seven-first.ensures 0 32 0 refl refl)

pub returns-clause-seven : goal.returns-clause-seven
returns-clause-seven c = λ s r t.
    ap (λ u. s.net u c.in_ok-list.list.word) (omega arith) ∙ c.in_ok-list.ensures.word s r t
    ∙ ap (λ os. slice_index (words_of s t os) 0) (c.deref.ensures.value ∙ c.in_ok-ops.ensures.items) ∙ first_is_seven c.seven-first.result c.seven-first.ensures s t
