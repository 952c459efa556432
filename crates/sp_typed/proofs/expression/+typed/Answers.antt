use Rattle.std.proofs.Common.{◌+◌, ◌∷◌, drop, sym, ap, ◌∙◌, arith}
use Rattle.std.proofs.lemmas.List.{drop_more, at_drop_all}
use borrow.Author.Tests.{ltb-true, ltb-false}
use Rattle.sp_reader.specs.Plain.{plain_exprs, plain_kind}
use Rattle.sp_reader.specs.PlainTree.{row}
use Rattle.sp_tree.specs.Plain as program
use Rattle.sp_tree.specs.PlainExpression.{more_expr}
use Rattle.sp_typed.specs.Expressions as spec
use Rattle.sp_typed.specs.Plain.{here_of}
use Rattle.sp_types.proofs.FindingLemmas.{same_three}
use Rattle.sp_types.proofs.TreeLemmas.{access_of}
use Rattle.sp_typed.specs.Named.{meant_by}
use Rattle.sp_typed.proofs.RowLemmas.{joined, joined_none, joined_push, none_of_line, many_of_line, ok_same}
use Rattle.sp_words.specs.Types.{int_type}
use Rattle.sp_typed.proofs.expression.+typed.Goals as goal
use Rattle.sp_typed.proofs.expression.+typed.Goals.{in_line-in_default-via-then-indices-lt2, in_line-in_default-via-else-indices-lt2+else-indices-lt3}

pub all_typed-loop-e-preserved : goal.all_typed-loop-e-preserved
all_typed-loop-e-preserved t c =
    let here = here_of c.args.scope.now in
    let rest = drop (c.loop-e.e-index + 1) c.args.all.now in
    let s = drop_more c.args.all.now c.loop-e.e-index c.e-item.result c.loop-e-test.true ∙ ap (λ x. x ∷ rest) (sym c.e-item.is) in
    let tail = spec.all_typed here c.args.ty (row (plain_exprs rest)) in
    ap (λ xs. joined (program.plain_exprs xs) tail) c.in_ok-push.ensures.items
    ∙ joined_push c.loop-e.typed_all.items c.in_ok-typed.field-0 tail
    ∙ ap (λ e. joined (program.plain_exprs c.loop-e.typed_all.items) (more_expr e tail)) c.in_ok-typed.ensures
    ∙ ap (λ xs. joined (program.plain_exprs c.loop-e.typed_all.items) (spec.all_typed here c.args.ty (row (plain_exprs xs)))) (sym s)
    ∙ c.loop-e.invariant

pub all_typed-returns : goal.all_typed-returns
all_typed-returns t c =
    let here = here_of c.args.scope.now in
    let done = program.plain_exprs c.loop-e.typed_all.items in
    sym (joined_none done)
    ∙ sym (at_drop_all (λ xs. joined done (spec.all_typed here c.args.ty (row (plain_exprs xs)))) c.args.all.now c.loop-e.e-index (omega arith))
    ∙ c.loop-e.invariant

pub in_line-returns-in_default : goal.in_line-returns-in_default
in_line-returns-in_default t c = elim c.in_default.branch [
  | in_line-in_default-via-then-indices-lt2 w ↦ none_of_line c.args.number (here_of c.args.scope.now) c.args.indices.now (omega (arith, ltb-true, ltb-false))
  | in_line-in_default-via-else-indices-lt2+else-indices-lt3 w ↦ many_of_line c.args.number (here_of c.args.scope.now) c.args.indices.now (omega (arith, ltb-true, ltb-false))
]

pub kind_typed-returns-in-At : goal.kind_typed-returns-in-At
kind_typed-returns-in-At t c =
    let here = here_of c.args.scope.now in
    ok_same c.element.result _ _
    (same_three spec.element _ _ _ _ _ _
    (c.is_line-line.ensures ∙ ap (λ n. spec.is_line (spec.symbol_if (meant_by here n))) c.deref-in-At.ensures)
    (c.number_of-in-At.ensures ∙ ap (λ n. spec.number_if (meant_by here n)) c.deref-in-At-2.ensures)
    (ap (λ es. spec.all_typed here int_type (row (plain_exprs es))) c.deref-in-At-3.ensures.value)
    ∙ sym (ap (spec.kind_typed here c.args.ty) (ap plain_kind c.in-At.is ∙ access_of c.in-At.name c.in-At.indices)))
    c.element.ensures
