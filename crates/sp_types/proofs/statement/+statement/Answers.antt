use Rattle.std.proofs.Common.{◌≡◌, ◌+◌, List, Option, ◌∷◌, ◌++◌, drop, sym, ap, ◌∙◌, arith}
use Rattle.std.proofs.lemmas.List.{drop_more, at_drop_all}
use Rattle.sp_reader.specs.declared.syntax.expression.Ident.{Ident}
use Rattle.sp_reader.specs.declared.syntax.statement.SynCounter.{SynCounter}
use Rattle.sp_reader.specs.declared.syntax.statement.SynStmt.{SynStmt}
use Rattle.sp_reader.specs.PlainTree.{PlainIdent, PlainExpr}
use Rattle.sp_reader.specs.Plain.{plain_ident, plain_expr}
use Rattle.sp_types.specs.Visible.{Visible, declare, value, with_acc}
use Rattle.sp_types.specs.declared.refusal.Refusal.{Refusal}
use Rattle.sp_reader.specs.PlainProgram.{plain_stmt, plain_stmt_kind, plain_stmts, plain_counters, plain_idents, plain_comb}
use Rattle.sp_reader.specs.PlainStatement.{body, PlainComb}
use Rattle.sp_types.specs.Expressions.{expr_refusals}
use Rattle.sp_types.specs.First.{notes}
use Rattle.sp_types.specs.Plain.{visible_of}
use Rattle.sp_types.specs.Statements.{after, after_all, acc_inside, head_refusals, test_refusals, begin_refusals, next_refusals, still, state, reduced, mem_reduced, stmt_refusals, body_refusals}
use Rattle.sp_types.specs.Spans.{twice, with_binds}
use Rattle.sp_types.specs.declared.own.Ask.{Ask}
use Rattle.sp_words.specs.declared.types.Ty.{Ty}
use Rattle.sp_types.proofs.FindingLemmas.{notes_next, notes_none, notes_two, then_same, then_after, same_three}
use Rattle.sp_types.proofs.GrowthLemmas.{left, back_body, back_loop, back_acc, back_declared_body}
use Rattle.sp_types.proofs.TreeLemmas.{block_of, foreach_of, reduce_of, fold_of, mem_reduce_of, fsm_of, branch_of}
use Rattle.sp_types.proofs.statement.+statement.Goals as goal

pub check_block-returns-clause-seen : goal.check_block-returns-clause-seen
check_block-returns-clause-seen t c = left _ _ _ _ _ _ c.leave.ensures c.mark-mark.ensures.names c.mark-mark.ensures.busy c.in_ok-check_body.ensures.seen (back_body (visible_of c.args.scope.now) (body (plain_stmts c.args.body.now)))

pub check_turn-returns-clause-seen : goal.check_turn-returns-clause-seen
check_turn-returns-clause-seen t c =
    left _ _ _ _ _ _ c.leave.ensures c.mark-mark.ensures.names c.mark-mark.ensures.busy
    (c.in_ok-check_body.ensures.seen ∙ ap (λ v. after_all v (body (plain_stmts c.args.body.now))) c.in_ok-check_binder.ensures.seen)
    (back_declared_body (visible_of c.args.scope.now) (plain_ident c.args.name.now).text (value c.args.ty) (body (plain_stmts c.args.body.now)))

pub check_body-loop-stmt-preserved : goal.check_body-loop-stmt-preserved
check_body-loop-stmt-preserved t c =
    let xs = c.args.body.now in
    let rest = drop (c.loop-stmt.stmt-index + 1) xs in
    let item = c.stmt-item.result in
    let s = drop_more xs c.loop-stmt.stmt-index item c.loop-stmt-test.true ∙ ap (λ x. x ∷ rest) (sym c.stmt-item.is) in
    let seen = visible_of c.loop-stmt.scope in
    let kind = plain_stmt_kind item.kind in
    let next = c.in_ok-check_stmt.ensures in (
      ap (λ v. after_all v (body (plain_stmts rest))) next.seen ∙ ap (λ ys. after_all seen (body (plain_stmts ys))) (sym s) ∙ c.loop-stmt.invariant.0,
      ap (λ v. notes c.check_stmt.new.finding.first (body_refusals v (body (plain_stmts rest)))) next.seen
          ∙ notes_next c.loop-stmt.finding.first c.check_stmt.new.finding.first _ (stmt_refusals seen item.at kind) (body_refusals (after seen kind) (body (plain_stmts rest))) next.found
          (ap (λ ys. notes c.loop-stmt.finding.first (body_refusals seen (body (plain_stmts ys)))) (sym s) ∙ c.loop-stmt.invariant.1),
    )

pub check_body-returns-clause-found : goal.check_body-returns-clause-found
check_body-returns-clause-found t c =
    let seen = visible_of c.loop-stmt.scope in
    sym (notes_none c.loop-stmt.finding.first)
    ∙ sym (at_drop_all (λ xs. notes c.loop-stmt.finding.first (body_refusals seen (body (plain_stmts xs)))) c.args.body.now c.loop-stmt.stmt-index (omega arith))
    ∙ c.loop-stmt.invariant.1

pub check_foreach-returns-clause-seen : goal.check_foreach-returns-clause-seen
check_foreach-returns-clause-seen t c =
    let ss = body (plain_stmts c.args.body.now) in
    left _ _ _ _ _ _ c.leave.ensures c.mark-mark.ensures.names c.mark-mark.ensures.busy
    (c.in_ok-check_body.ensures.seen ∙ ap (λ v. after_all v ss) c.in_ok-check_head.ensures.seen)
    (back_loop (visible_of c.args.scope.now) (plain_idents c.args.binds.now) ss)

pub check_reduce-returns-clause-seen : goal.check_reduce-returns-clause-seen
check_reduce-returns-clause-seen t c =
    let ss = body (plain_stmts c.args.body.now) in
    let acc = plain_ident c.args.acc.now in
    let inside = c.in_ok-hold.ensures ∙ ap (with_acc (visible_of c.check_acc.new.scope)) c.deref-2.ensures ∙ ap (λ v. with_acc v acc.text) c.in_ok-check_acc.ensures.seen in
    left _ _ _ _ _ _ c.leave.ensures c.mark-mark.ensures.names c.mark-mark.ensures.busy
    (c.in_ok-check_body.ensures.seen ∙ ap (λ v. after_all v ss) inside)
    (back_acc (visible_of c.args.scope.now) (plain_idents c.args.binds.now) acc ss)

pub check_mem_reduce-returns-clause-seen : goal.check_mem_reduce-returns-clause-seen
check_mem_reduce-returns-clause-seen t c =
    let ss = body (plain_stmts c.args.body.now) in
    let acc = plain_ident c.args.acc.now in
    let inside = c.in_ok-hold.ensures ∙ ap (with_acc (visible_of c.check_acc.new.scope)) c.deref-2.ensures ∙ ap (λ v. with_acc v acc.text) c.in_ok-check_acc.ensures.seen in
    left _ _ _ _ _ _ c.leave.ensures c.mark-mark.ensures.names c.mark-mark.ensures.busy
    (c.in_ok-check_body.ensures.seen ∙ ap (λ v. after_all v ss) inside)
    (back_acc (visible_of c.args.scope.now) (plain_idents c.args.binds.now) acc ss)

-- ---- a statement, by its parts

abbrev of_block : Visible → List SynStmt → List Refusal
of_block seen ss = body_refusals seen (body (plain_stmts ss))

pub check_stmt-returns-in-Block-clause-found : goal.check_stmt-returns-in-Block-clause-found
check_stmt-returns-in-Block-clause-found t c =
    let seen = visible_of c.args.scope.now in
    let whole = ap (stmt_refusals seen c.args.stmt.now.at) (ap plain_stmt_kind c.in-Block.is ∙ block_of c.in-Block.field-0 c.in-Block.body) in
    then_same c.check_block.result _ _ _ _ (ap (of_block seen) c.deref-in-Block.ensures.value ∙ sym whole) c.check_block.ensures.found

abbrev of_loop : Visible → List SynCounter → List Ident → List SynStmt → List Refusal
of_loop seen cs bs ss = head_refusals seen (plain_counters cs) (plain_idents bs) ++ of_block (with_binds seen (plain_idents bs)) ss

pub check_stmt-returns-in-Foreach-clause-found : goal.check_stmt-returns-in-Foreach-clause-found
check_stmt-returns-in-Foreach-clause-found t c =
    let seen = visible_of c.args.scope.now in
    let whole = ap (stmt_refusals seen c.args.stmt.now.at) (ap plain_stmt_kind c.in-Foreach.is ∙ foreach_of c.in-Foreach.l) in
    then_same c.check_foreach.result _ _ _ _
    (same_three (of_loop seen) _ _ _ _ _ _ c.deref-in-Foreach.ensures.value c.deref-in-Foreach-2.ensures.value c.deref-in-Foreach-3.ensures.value ∙ sym whole)
    c.check_foreach.ensures.found

abbrev of_reduce : Visible → PlainIdent → PlainExpr → PlainComb → List SynCounter → List Ident → List SynStmt → List Refusal
of_reduce seen acc v comb cs bs ss =
    reduced seen (plain_counters cs) (plain_idents bs) acc (of_block (acc_inside seen (plain_idents bs) acc) ss) (after_all (acc_inside seen (plain_idents bs) acc) (body (plain_stmts ss))) v comb

pub check_stmt-returns-in-Reduce-clause-found : goal.check_stmt-returns-in-Reduce-clause-found
check_stmt-returns-in-Reduce-clause-found t c =
    let seen = visible_of c.args.scope.now in
    let whole = ap (stmt_refusals seen c.args.stmt.now.at) (ap plain_stmt_kind c.in-Reduce.is ∙ reduce_of c.in-Reduce.l c.in-Reduce.acc c.in-Reduce.last c.in-Reduce.comb) in
    then_same c.check_reduce.result _ _ _ _
    (same_three (of_reduce seen (plain_ident c.in-Reduce.acc) (plain_expr c.in-Reduce.last) (plain_comb c.in-Reduce.comb)) _ _ _ _ _ _
    c.deref-in-Reduce.ensures.value c.deref-in-Reduce-2.ensures.value c.deref-in-Reduce-3.ensures.value ∙ sym whole)
    c.check_reduce.ensures.found

pub check_stmt-returns-in-Fold-clause-found : goal.check_stmt-returns-in-Fold-clause-found
check_stmt-returns-in-Fold-clause-found t c =
    let seen = visible_of c.args.scope.now in
    let whole = ap (stmt_refusals seen c.args.stmt.now.at) (ap plain_stmt_kind c.in-Fold.is ∙ fold_of c.in-Fold.l c.in-Fold.acc c.in-Fold.last c.in-Fold.comb) in
    then_same c.check_reduce-in-Fold.result _ _ _ _
    (same_three (of_reduce seen (plain_ident c.in-Fold.acc) (plain_expr c.in-Fold.last) (plain_comb c.in-Fold.comb)) _ _ _ _ _ _
    c.deref-in-Fold.ensures.value c.deref-in-Fold-2.ensures.value c.deref-in-Fold-3.ensures.value ∙ sym whole)
    c.check_reduce-in-Fold.ensures.found

abbrev of_mem_reduce : Visible → PlainIdent → PlainExpr → PlainComb → List SynCounter → List Ident → List SynStmt → List Refusal
of_mem_reduce seen acc v comb cs bs ss =
    mem_reduced seen (plain_counters cs) (plain_idents bs) acc (of_block (acc_inside seen (plain_idents bs) acc) ss) (after_all (acc_inside seen (plain_idents bs) acc) (body (plain_stmts ss))) v comb

pub check_stmt-returns-in-MemReduce-clause-found : goal.check_stmt-returns-in-MemReduce-clause-found
check_stmt-returns-in-MemReduce-clause-found t c =
    let seen = visible_of c.args.scope.now in
    let whole = ap (stmt_refusals seen c.args.stmt.now.at) (ap plain_stmt_kind c.in-MemReduce.is ∙ mem_reduce_of c.in-MemReduce.l c.in-MemReduce.acc c.in-MemReduce.last c.in-MemReduce.comb) in
    then_same c.check_mem_reduce.result _ _ _ _
    (same_three (of_mem_reduce seen (plain_ident c.in-MemReduce.acc) (plain_expr c.in-MemReduce.last) (plain_comb c.in-MemReduce.comb)) _ _ _ _ _ _
    c.deref-in-MemReduce.ensures.value c.deref-in-MemReduce-2.ensures.value c.deref-in-MemReduce-3.ensures.value ∙ sym whole)
    c.check_mem_reduce.ensures.found

pub check_stmt-returns-in_ok-check_block-in-If-clause-found : goal.check_stmt-returns-in_ok-check_block-in-If-clause-found
check_stmt-returns-in_ok-check_block-in-If-clause-found t c =
    let seen = visible_of c.args.scope.now in
    let old = c.args.finding.now.first in
    let test = plain_expr c.in-If.test in
    let whole = ap (stmt_refusals seen c.args.stmt.now.at) (ap plain_stmt_kind c.in-If.is ∙ branch_of c.in-If.test c.in-If.first c.in-If.second) in
    let one = c.check.ensures ∙ ap (λ ask. notes old (expr_refusals seen ask test)) c.still-in-If.ensures in
    let two = c.in_ok-check_block-in-If.ensures.found ∙ ap (λ ss. notes c.check.new.finding.first (of_block seen ss)) c.deref-in-If.ensures.value in
    let rs = test_refusals seen test ++ of_block seen c.in-If.first.items in
    let last = ap (λ v. of_block v c.deref-in-If-2.result.now) c.in_ok-check_block-in-If.ensures.seen ∙ ap (of_block seen) c.deref-in-If-2.ensures.value in
    then_after c.check_block-in-If-2.result old c.check_block-in-If.new.finding.first _ rs _ _
    (notes_two old (test_refusals seen test) (of_block seen c.in-If.first.items) _ _ one two)
    (ap (λ x. rs ++ x) last ∙ sym whole)
    c.check_block-in-If-2.ensures.found

abbrev of_turn : PlainIdent → Visible → Option Ty → List SynStmt → List Refusal
of_turn now seen ty ss = twice seen now ++ of_block (declare seen now.text (value ty)) ss

abbrev of_next : PlainIdent → PlainExpr → Visible → Option Ty → Ask → List Refusal
of_next last next seen ty ask = twice seen last ++ expr_refusals (declare seen last.text (value ty)) ask next

pub check_stmt-returns-in_ok-check_turn-in-Fsm-clause-found : goal.check_stmt-returns-in_ok-check_turn-in-Fsm-clause-found
check_stmt-returns-in_ok-check_turn-in-Fsm-clause-found t c =
    let seen = visible_of c.args.scope.now in
    let old = c.args.finding.now.first in
    let start = plain_expr c.in-Fsm.start in
    let now = plain_ident c.in-Fsm.now in
    let last = plain_ident c.in-Fsm.last in
    let next = plain_expr c.in-Fsm.next in
    let ty = c.state_type-ty.result in
    let typed = c.state_type-ty.ensures in
    let whole = ap (stmt_refusals seen c.args.stmt.now.at) (ap plain_stmt_kind c.in-Fsm.is ∙ fsm_of c.in-Fsm.start c.in-Fsm.tested c.in-Fsm.test c.in-Fsm.now c.in-Fsm.body c.in-Fsm.last c.in-Fsm.next) in
    let one = c.in_ok-check_begin-in-Fsm.ensures.found in
    let here = c.in_ok-check_begin-in-Fsm.ensures.seen in
    let two = c.in_ok-check_turn-in-Fsm.ensures.found
    ∙ ap (notes c.check_begin.new.finding.first) (same_three (of_turn now) _ _ _ _ _ _ here typed c.deref-in-Fsm.ensures.value) in
    let there = c.in_ok-check_turn-in-Fsm.ensures.seen ∙ here in
    let begin = begin_refusals seen start (plain_ident c.in-Fsm.tested) (plain_expr c.in-Fsm.test) in
    let turn = of_turn now seen (state seen start) c.in-Fsm.body.items in
    let after_turn = same_three (of_next last next) _ _ _ _ _ _ there typed (c.still.ensures ∙ ap still typed) in
    then_after c.check_under.result old c.check_turn.new.finding.first _ (begin ++ turn) _ _
    (notes_two old begin turn _ _ one two)
    (ap (λ x. begin ++ turn ++ x) after_turn ∙ sym whole)
    c.check_under.ensures.found
