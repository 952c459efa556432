use Rattle.std.proofs.Common.{◌≡◌, ◌++◌, List, ◌∷◌, [], sym, ap, ◌∙◌, arith}
use Rattle.std.proofs.lemmas.List.{at_drop_all}
use Rattle.sp_reader.specs.Plain.{plain_ident}
use Rattle.sp_reader.specs.PlainProgram.{plain_stmts, plain_stmt_kind, plain_idents}
use Rattle.sp_reader.specs.PlainStatement.{body}
use Rattle.sp_reader.specs.declared.syntax.expression.Ident.{Ident}
use Rattle.sp_reader.specs.declared.syntax.statement.SynStmt.{SynStmt}
use Rattle.sp_types.proofs.TreeLemmas.{block_of, foreach_of, reduce_of, fold_of, mem_reduce_of, fsm_of, branch_of}
use Rattle.sp_check.specs.Lists.{Lists, lists_of, joined, of_body, of_loop, of_stmt}
use Rattle.sp_check.proofs.ListLemmas.{lists, joined_twice, joined_none, joined_turn, along}
use Rattle.sp_check.proofs.declared.Declared.+declared.Goals as goal

-- the lists after a body, and after a loop
abbrev after_body : Lists → List SynStmt → Lists
after_body a ss = joined a (of_body (body (plain_stmts ss)))

abbrev after_loop : Lists → List Ident → List SynStmt → Lists
after_loop a binds ss = joined a (of_loop (plain_idents binds) (body (plain_stmts ss)))

loop_same : (a : Lists) (bs cs : List Ident) (ss ts : List SynStmt) → bs ≡ cs → ss ≡ ts → after_loop a bs ss ≡ after_loop a cs ts
loop_same a bs cs ss ts e f = ap (λ x. after_loop a x ss) e ∙ ap (after_loop a cs) f

pub body-returns : goal.body-returns
body-returns t c =
    let a = lists_of c.loop-stmt.self in
    sym (joined_none a)
    ∙ sym (at_drop_all (λ ss. after_body a ss) c.args.body.now c.loop-stmt.stmt-index (omega arith))
    ∙ c.loop-stmt.invariant

pub stmt-returns-in-Block : goal.stmt-returns-in-Block
stmt-returns-in-Block t c =
    let a = lists_of c.args.self.now in
    let whole = ap (λ k. joined a (of_stmt c.args.stmt.now.at k)) (ap plain_stmt_kind c.in-Block.is ∙ block_of c.in-Block.field-0 c.in-Block.body) in
    along c.body.result _ _ _ (ap (after_body a) c.deref-in-Block.ensures.value ∙ sym whole) c.body.ensures

pub stmt-returns-in-Foreach : goal.stmt-returns-in-Foreach
stmt-returns-in-Foreach t c =
    let a = lists_of c.args.self.now in
    let whole = ap (λ k. joined a (of_stmt c.args.stmt.now.at k)) (ap plain_stmt_kind c.in-Foreach.is ∙ foreach_of c.in-Foreach.l) in
    along c.loop_body.result _ _ _ (loop_same a _ _ _ _ c.deref-in-Foreach.ensures.value c.deref-in-Foreach-2.ensures.value ∙ sym whole) c.loop_body.ensures

pub stmt-returns-in-Reduce : goal.stmt-returns-in-Reduce
stmt-returns-in-Reduce t c =
    let a = lists_of c.args.self.now in
    let whole = ap (λ k. joined a (of_stmt c.args.stmt.now.at k)) (ap plain_stmt_kind c.in-Reduce.is ∙ reduce_of c.in-Reduce.l c.in-Reduce.field-1 c.in-Reduce.field-2 c.in-Reduce.field-3) in
    along c.loop_body-in-Reduce.result _ _ _ (loop_same a _ _ _ _ c.deref-in-Reduce.ensures.value c.deref-in-Reduce-2.ensures.value ∙ sym whole) c.loop_body-in-Reduce.ensures

pub stmt-returns-in-Fold : goal.stmt-returns-in-Fold
stmt-returns-in-Fold t c =
    let a = lists_of c.args.self.now in
    let whole = ap (λ k. joined a (of_stmt c.args.stmt.now.at k)) (ap plain_stmt_kind c.in-Fold.is ∙ fold_of c.in-Fold.l c.in-Fold.field-1 c.in-Fold.field-2 c.in-Fold.field-3) in
    along c.loop_body-in-Fold.result _ _ _ (loop_same a _ _ _ _ c.deref-in-Fold.ensures.value c.deref-in-Fold-2.ensures.value ∙ sym whole) c.loop_body-in-Fold.ensures

pub stmt-returns-in-MemReduce : goal.stmt-returns-in-MemReduce
stmt-returns-in-MemReduce t c =
    let a = lists_of c.args.self.now in
    let whole = ap (λ k. joined a (of_stmt c.args.stmt.now.at k)) (ap plain_stmt_kind c.in-MemReduce.is ∙ mem_reduce_of c.in-MemReduce.l c.in-MemReduce.field-1 c.in-MemReduce.field-2 c.in-MemReduce.field-3) in
    along c.loop_body-in-MemReduce.result _ _ _ (loop_same a _ _ _ _ c.deref-in-MemReduce.ensures.value c.deref-in-MemReduce-2.ensures.value ∙ sym whole) c.loop_body-in-MemReduce.ensures

pub stmt-returns-in_ok-body-in-Fsm : goal.stmt-returns-in_ok-body-in-Fsm
stmt-returns-in_ok-body-in-Fsm t c =
    let a = lists_of c.args.self.now in
    let x = (plain_ident c.in-Fsm.tested).text in
    let y = (plain_ident c.in-Fsm.now).text in
    let z = (plain_ident c.in-Fsm.last).text in
    let inner = of_body (body (plain_stmts c.in-Fsm.body.items)) in
    let whole = ap (λ k. joined a (of_stmt c.args.stmt.now.at k)) (ap plain_stmt_kind c.in-Fsm.is ∙ fsm_of c.in-Fsm.field-0 c.in-Fsm.tested c.in-Fsm.field-2 c.in-Fsm.now c.in-Fsm.body c.in-Fsm.last c.in-Fsm.field-6) in
    let with_val : Lists → List _ → Lists = λ b v. record b { vals = b.vals ++ v ∷ [] } in
    let before = c.in_ok-body-in-Fsm.ensures
    ∙ ap (λ b. after_body b c.deref-in-Fsm.result.now) (c.in_ok-val-in-Fsm-2.ensures ∙ ap (λ b. with_val b y) c.in_ok-val-in-Fsm.ensures)
    ∙ ap (after_body (with_val (with_val a x) y)) c.deref-in-Fsm.ensures.value in
    along c.val-in-Fsm-3.result _ _ _
    (ap (λ b. with_val b z) before ∙ ap (λ vs. lists (a.mems ++ inner.mems) vs (a.counters ++ inner.counters)) (joined_turn a.vals x y z inner.vals) ∙ sym whole)
    c.val-in-Fsm-3.ensures

pub stmt-returns-in_ok-body-in-If : goal.stmt-returns-in_ok-body-in-If
stmt-returns-in_ok-body-in-If t c =
    let a = lists_of c.args.self.now in
    let whole = ap (λ k. joined a (of_stmt c.args.stmt.now.at k)) (ap plain_stmt_kind c.in-If.is ∙ branch_of c.in-If.field-0 c.in-If.first c.in-If.second) in
    let before = c.in_ok-body-in-If.ensures ∙ ap (after_body a) c.deref-in-If.ensures.value in
    along c.body-in-If-2.result _ _ _
    (ap (λ b. after_body b c.deref-in-If-2.result.now) before
    ∙ ap (after_body (after_body a c.in-If.first.items)) c.deref-in-If-2.ensures.value
    ∙ joined_twice a _ _
    ∙ sym whole)
    c.body-in-If-2.ensures
