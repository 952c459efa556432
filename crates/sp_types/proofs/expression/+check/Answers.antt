use Rattle.std.proofs.Common.{rules, ◌≡◌, ◌++◌, ◌+◌, ◌∷◌, Some, drop, length, sym, ap, ◌∙◌, arith}
use Rattle.std.proofs.lemmas.List.{drop_more, at_drop_all}
use Rattle.sp_words.specs.Types.{int_type}
use Rattle.sp_reader.specs.Plain.{plain_expr, plain_exprs, plain_ident, plain_kind}
use Rattle.sp_reader.specs.PlainTree.{row}
use Rattle.sp_types.specs.Expressions.{name_refusals, access_refusals, exprs_refusals, expr_refusals, kind_refusals, at_type, index_count}
use Rattle.sp_types.specs.First.{notes}
use Rattle.sp_types.specs.Plain.{visible_of}
use Rattle.sp_types.specs.Visible.{symbol_of}
use Rattle.sp_types.proofs.FindingLemmas.{notes_next, notes_none, notes_three}
use Rattle.sp_types.proofs.TreeLemmas.{access_of, count_of_row}
use Rattle.sp_types.proofs.expression.+check.Goals as goal

pub check_all-loop-e-preserved : goal.check_all-loop-e-preserved
check_all-loop-e-preserved t c =
    let rest = drop (c.loop-e.e-index + 1) c.args.all.now in
    let s = drop_more c.args.all.now c.loop-e.e-index c.e-item.result c.loop-e-test.true ∙ ap (λ x. x ∷ rest) (sym c.e-item.is) in
    let seen = visible_of c.args.scope.now in
    notes_next c.loop-e.finding.first c.check.new.finding.first _ (expr_refusals seen c.args.ask (plain_expr c.e-item.result)) (exprs_refusals seen c.args.ask (row (plain_exprs rest)))
    c.check.ensures
    (ap (λ xs. notes c.loop-e.finding.first (exprs_refusals seen c.args.ask (row (plain_exprs xs)))) (sym s) ∙ c.loop-e.invariant)

pub check_kind-returns-in-At : goal.check_kind-returns-in-At
check_kind-returns-in-At t c =
    let seen = visible_of c.args.scope.now in
    let i = plain_ident c.in-At.name in
    let all = row (plain_exprs c.in-At.indices.items) in
    let old = c.args.finding.now.first in
    let n : c.len.result ≡ length c.in-At.indices.items = search rules in
    let a = c.check_access.ensures ∙ ap (λ k. notes c.check_name-in-At.new.finding.first (access_refusals i.place (symbol_of seen i.text) k)) (n ∙ sym (count_of_row c.in-At.indices.items)) in
    let e = ap (kind_refusals seen c.args.ask c.args.e.now.at) (ap plain_kind c.in-At.is ∙ access_of c.in-At.name c.in-At.indices) in
    let asked = c.at_type.ensures ∙ ap (λ ty. at_type (Some ty) c.args.ask.still) c.int.ensures in
    let b = c.check_all.ensures
    ∙ ap (λ x. notes c.check_access.new.finding.first (exprs_refusals seen x (row (plain_exprs c.deref-in-At.result.now)))) asked
    ∙ ap (λ xs. notes c.check_access.new.finding.first (exprs_refusals seen (at_type (Some int_type) c.args.ask.still) (row (plain_exprs xs)))) c.deref-in-At.ensures.value in
    notes_three old (name_refusals seen i) (access_refusals i.place (symbol_of seen i.text) (index_count all)) (exprs_refusals seen (at_type (Some int_type) c.args.ask.still) all)
    _ _ _ c.check_name-in-At.ensures a b
    ∙ ap (notes old) (sym e)

pub check_all-returns : goal.check_all-returns
check_all-returns t c =
    let seen = visible_of c.args.scope.now in
    sym (notes_none c.loop-e.finding.first)
    ∙ sym (at_drop_all (λ xs. notes c.loop-e.finding.first (exprs_refusals seen c.args.ask (row (plain_exprs xs)))) c.args.all.now c.loop-e.e-index (omega arith))
    ∙ c.loop-e.invariant
