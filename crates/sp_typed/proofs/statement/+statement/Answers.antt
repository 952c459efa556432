use Rattle.std.proofs.Common.{◌≡◌, ◌+◌, ◌++◌, List, ◌∷◌, [], drop, sym, ap, ◌∙◌, arith}
use Rattle.std.proofs.lemmas.List.{drop_more, at_drop_all}
use Rattle.sp_reader.specs.Plain.{plain_ident, plain_expr}
use Rattle.sp_reader.specs.PlainProgram.{plain_stmts, plain_stmt_kind, plain_counters, plain_idents}
use Rattle.sp_reader.specs.PlainStatement.{body}
use Rattle.sp_tree.specs.PlainStatement as program
use Rattle.sp_tree.specs.Plain.{plain_expr as tree_expr}
use Rattle.sp_tree.specs.PlainTree as tree
use Rattle.sp_reader.specs.PlainStatement.{PlainStmts}
use Rattle.sp_words.specs.declared.types.Ty.{Ty}
use Rattle.sp_words.specs.declared.types.Ty.TheVariants.{Bit}
use Rattle.sp_types.proofs.TreeLemmas.{block_of, foreach_of, reduce_of, fold_of, mem_reduce_of, fsm_of, branch_of}
use Rattle.sp_typed.specs.Declarations.{after, after_all, in_loop, past_body, past_loop, past_turn}
use Rattle.sp_typed.specs.Plain.{here_of}
use Rattle.sp_typed.specs.Expressions.{number_of, typed, word_type}
use Rattle.sp_typed.specs.Named.{Here}
use Rattle.sp_typed.specs.Statements.{body_typed, stmt_typed, with_state, in_fsm, counters_typed, loop_style, comb_typed, part_number}
use Rattle.sp_types.proofs.FindingLemmas.{same_three}
use Rattle.sp_reader.specs.declared.syntax.expression.Ident.{Ident}
use Rattle.sp_reader.specs.declared.syntax.statement.SynCounter.{SynCounter}
use Rattle.sp_reader.specs.declared.syntax.statement.SynLoop.{out-SynLoop}
use Rattle.sp_reader.specs.declared.syntax.statement.SynStmt.{SynStmt}
use Rattle.sp_reader.specs.PlainTree.{PlainIdent, PlainExpr}
use Rattle.sp_words.specs.declared.kind.BinOp.{BinOp}
use Rattle.sp_words.specs.declared.kind.Style.{Style}
use Rattle.std.specs.Prelude.{Bool, true, false, Option}
use Rattle.sp_typed.proofs.GrowthLemmas.{left, back_body, back_loop, back_turn, here_with, past_two, past_fsm}
use Rattle.sp_typed.proofs.StatementLemmas.{joined_stmts, joined_none, joined_push, stmt_same, seen_same, any_ok}
use Rattle.sp_typed.proofs.statement.+statement.Goals as goal

pub block_typed-returns-clause-seen : goal.block_typed-returns-clause-seen
block_typed-returns-clause-seen t c =
    let here = here_of c.args.scope.now in
    let ss = body (plain_stmts c.args.body.now) in
    left here (after_all here ss) (here_of c.body_typed.new.scope) (here_of c.leave.new.self) c.mark-mark.result
    c.leave.ensures c.mark-mark.ensures c.in_ok-typed_body.ensures.seen (past_body here ss) (back_body here ss)

pub loop_typed-returns-clause-seen : goal.loop_typed-returns-clause-seen
loop_typed-returns-clause-seen t c =
    let here = here_of c.args.scope.now in
    let binds = plain_idents c.args.binds.now in
    let ss = body (plain_stmts c.args.body.now) in
    left here (after_all (in_loop here binds) ss) (here_of c.body_typed.new.scope) (here_of c.leave.new.self) c.mark-mark.result
    c.leave.ensures c.mark-mark.ensures (c.in_ok-typed_body.ensures.seen ∙ ap (λ v. after_all v ss) c.in_ok-enter_loop.ensures) (past_loop here binds ss) (back_loop here binds ss)

pub valued_typed-returns-clause-seen : goal.valued_typed-returns-clause-seen
valued_typed-returns-clause-seen t c =
    let here = here_of c.args.scope.now in
    let binds = plain_idents c.args.binds.now in
    let ss = body (plain_stmts c.args.body.now) in
    left here (after_all (in_loop here binds) ss) (here_of c.body_typed.new.scope) (here_of c.leave.new.self) c.mark-mark.result
    c.leave.ensures c.mark-mark.ensures (c.in_ok-typed_body.ensures.seen ∙ ap (λ v. after_all v ss) c.in_ok-enter_loop.ensures) (past_loop here binds ss) (back_loop here binds ss)

pub parted_typed-returns-clause-seen : goal.parted_typed-returns-clause-seen
parted_typed-returns-clause-seen t c =
    let here = here_of c.args.scope.now in
    let binds = plain_idents c.args.binds.now in
    let ss = body (plain_stmts c.args.body.now) in
    left here (after_all (in_loop here binds) ss) (here_of c.body_typed.new.scope) (here_of c.leave.new.self) c.mark-mark.result
    c.leave.ensures c.mark-mark.ensures (c.in_ok-typed_body.ensures.seen ∙ ap (λ v. after_all v ss) c.in_ok-enter_loop.ensures) (past_loop here binds ss) (back_loop here binds ss)

pub turn_typed-returns-clause-seen : goal.turn_typed-returns-clause-seen
turn_typed-returns-clause-seen t c =
    let here = here_of c.args.scope.now in
    let now = plain_ident c.args.now.now in
    let ss = body (plain_stmts c.args.body.now) in
    left here (after_all (in_fsm here now c.args.state) ss) (here_of c.body_typed.new.scope) (here_of c.leave.new.self) c.mark-mark.result
    c.leave.ensures c.mark-mark.ensures (c.in_ok-typed_body.ensures.seen ∙ ap (λ v. after_all v ss) c.in_ok-enter_turn.ensures) (past_turn here ss) (back_turn here now c.args.state ss)

pub body_typed-loop-stmt-preserved : goal.body_typed-loop-stmt-preserved
body_typed-loop-stmt-preserved t c =
    let xs = c.args.body.now in
    let rest = drop (c.loop-stmt.stmt-index + 1) xs in
    let item = c.stmt-item.result in
    let s = drop_more xs c.loop-stmt.stmt-index item c.loop-stmt-test.true ∙ ap (λ x. x ∷ rest) (sym c.stmt-item.is) in
    let here = here_of c.loop-stmt.scope in
    let kind = plain_stmt_kind item.kind in
    let next = c.in_ok-kind.ensures in
    let done = c.loop-stmt.typed_body.items in
    let tail = body_typed (after here kind) (body (plain_stmts rest)) in (
      ap (λ v. after_all v (body (plain_stmts rest))) next.seen ∙ ap (λ ys. after_all here (body (plain_stmts ys))) (sym s) ∙ c.loop-stmt.invariant.0,
      ap (λ ys. joined_stmts (tree.plain_stmts ys) (body_typed (here_of c.stmt_typed.new.scope) (body (plain_stmts rest)))) c.in_ok-push.ensures.items
          ∙ ap (λ h. joined_stmts (tree.plain_stmts (done ++ record { at = item.at; kind = c.in_ok-kind.kind } ∷ [])) (body_typed h (body (plain_stmts rest)))) next.seen
          ∙ joined_push done (record { at = item.at; kind = c.in_ok-kind.kind }) tail
          ∙ ap (λ k. joined_stmts (tree.plain_stmts done) (program.more_stmt (program.stmt item.at k) tail)) next.typed
          ∙ ap (λ ys. joined_stmts (tree.plain_stmts done) (body_typed here (body (plain_stmts ys)))) (sym s)
          ∙ c.loop-stmt.invariant.1,
    )

pub body_typed-returns-clause-typed : goal.body_typed-returns-clause-typed
body_typed-returns-clause-typed t c =
    let here = here_of c.loop-stmt.scope in
    let done = tree.plain_stmts c.loop-stmt.typed_body.items in
    sym (joined_none done)
    ∙ sym (at_drop_all (λ ys. joined_stmts done (body_typed here (body (plain_stmts ys)))) c.args.body.now c.loop-stmt.stmt-index (omega arith))
    ∙ c.loop-stmt.invariant.1

-- ---- a statement, by its parts

pub stmt_typed-returns-in_ok-typed_body-in-Block-clause-seen : goal.stmt_typed-returns-in_ok-typed_body-in-Block-clause-seen
stmt_typed-returns-in_ok-typed_body-in-Block-clause-seen t c =
    let here = here_of c.args.scope.now in
    let whole = ap (after here) (ap plain_stmt_kind c.in-Block.is ∙ block_of c.in-Block.style c.in-Block.body) in
    any_ok c.control.result _ (c.in_ok-typed_body-in-Block.ensures.seen ∙ ap (λ ss. past_body here (body (plain_stmts ss))) c.deref-in-Block.ensures.value ∙ sym whole)

pub stmt_typed-returns-in_ok-typed_body-in-Block-clause-typed : goal.stmt_typed-returns-in_ok-typed_body-in-Block-clause-typed
stmt_typed-returns-in_ok-typed_body-in-Block-clause-typed t c =
    let here = here_of c.args.scope.now in
    let whole = ap (stmt_typed here) (ap plain_stmt_kind c.in-Block.is ∙ block_of c.in-Block.style c.in-Block.body) in
    let inner = c.in_ok-typed_body-in-Block.ensures.typed ∙ ap (λ ss. body_typed here (body (plain_stmts ss))) c.deref-in-Block.ensures.value in
    stmt_same c.control.result _ _ (c.block_of.ensures ∙ ap (program.block c.in-Block.style) inner ∙ sym whole) c.control.ensures

-- after a loop
abbrev left_loop : Here → List Ident → List SynStmt → Here
left_loop here bs ss = past_loop here (plain_idents bs) (body (plain_stmts ss))

left_same : (here : Here) (bs cs : List Ident) (ss ts : List SynStmt) → bs ≡ cs → ss ≡ ts → left_loop here bs ss ≡ left_loop here cs ts
left_same here bs cs ss ts e f = ap (λ x. left_loop here x ss) e ∙ ap (left_loop here cs) f

abbrev of_foreach : Here → Option Style → List SynCounter → List Ident → List SynStmt → program.PlainStmtKind
of_foreach here style cs bs ss = program.foreach (loop_style style) (counters_typed here here.counters (plain_counters cs)) (body_typed (in_loop here (plain_idents bs)) (body (plain_stmts ss)))

abbrev of_reduce : Here → Option Style → Bool → PlainIdent → PlainExpr → BinOp → List SynCounter → List Ident → List SynStmt → program.PlainStmtKind
of_reduce here style fold acc v op cs bs ss =
    program.reduce (loop_style style) fold (number_of here acc) (counters_typed here here.counters (plain_counters cs)) (body_typed (in_loop here (plain_idents bs)) (body (plain_stmts ss)))
    (typed (after_all (in_loop here (plain_idents bs)) (body (plain_stmts ss))) (word_type here acc) v) (comb_typed op)

abbrev of_mem_reduce : Here → Option Style → PlainIdent → PlainExpr → BinOp → List SynCounter → List Ident → List SynStmt → program.PlainStmtKind
of_mem_reduce here style acc v op cs bs ss =
    program.mem_reduce (loop_style style) (number_of here acc) (counters_typed here here.counters (plain_counters cs)) (body_typed (in_loop here (plain_idents bs)) (body (plain_stmts ss)))
    (part_number (after_all (in_loop here (plain_idents bs)) (body (plain_stmts ss))) v) (comb_typed op)

pub stmt_typed-returns-in-Foreach-clause-seen : goal.stmt_typed-returns-in-Foreach-clause-seen
stmt_typed-returns-in-Foreach-clause-seen t c =
    let here = here_of c.args.scope.now in
    let whole = ap (after here) (ap plain_stmt_kind c.in-Foreach.is ∙ foreach_of c.in-Foreach.l) in
    seen_same c.foreach_typed.result _ _ _ (left_same here _ _ _ _ c.deref-in-Foreach-2.ensures.value c.deref-in-Foreach-3.ensures.value ∙ sym whole) c.foreach_typed.ensures.seen

pub stmt_typed-returns-in-Foreach-clause-typed : goal.stmt_typed-returns-in-Foreach-clause-typed
stmt_typed-returns-in-Foreach-clause-typed t c =
    let here = here_of c.args.scope.now in
    let whole = ap (stmt_typed here) (ap plain_stmt_kind c.in-Foreach.is ∙ foreach_of c.in-Foreach.l) in
    stmt_same c.foreach_typed.result _ _
    (same_three (of_foreach here (out-SynLoop c.in-Foreach.l).style) _ _ _ _ _ _ c.deref-in-Foreach.ensures.value c.deref-in-Foreach-2.ensures.value c.deref-in-Foreach-3.ensures.value ∙ sym whole)
    c.foreach_typed.ensures.typed

pub stmt_typed-returns-in-Reduce-clause-seen : goal.stmt_typed-returns-in-Reduce-clause-seen
stmt_typed-returns-in-Reduce-clause-seen t c =
    let here = here_of c.args.scope.now in
    let whole = ap (after here) (ap plain_stmt_kind c.in-Reduce.is ∙ reduce_of c.in-Reduce.l c.in-Reduce.acc c.in-Reduce.value c.in-Reduce.comb) in
    seen_same c.reduce_typed.result _ _ _ (left_same here _ _ _ _ c.deref-in-Reduce-2.ensures.value c.deref-in-Reduce-3.ensures.value ∙ sym whole) c.reduce_typed.ensures.seen

pub stmt_typed-returns-in-Reduce-clause-typed : goal.stmt_typed-returns-in-Reduce-clause-typed
stmt_typed-returns-in-Reduce-clause-typed t c =
    let here = here_of c.args.scope.now in
    let whole = ap (stmt_typed here) (ap plain_stmt_kind c.in-Reduce.is ∙ reduce_of c.in-Reduce.l c.in-Reduce.acc c.in-Reduce.value c.in-Reduce.comb) in
    stmt_same c.reduce_typed.result _ _
    (same_three (of_reduce here (out-SynLoop c.in-Reduce.l).style false (plain_ident c.in-Reduce.acc) (plain_expr c.in-Reduce.value) c.in-Reduce.comb.op) _ _ _ _ _ _ c.deref-in-Reduce.ensures.value c.deref-in-Reduce-2.ensures.value c.deref-in-Reduce-3.ensures.value ∙ sym whole)
    c.reduce_typed.ensures.typed

pub stmt_typed-returns-in-Fold-clause-seen : goal.stmt_typed-returns-in-Fold-clause-seen
stmt_typed-returns-in-Fold-clause-seen t c =
    let here = here_of c.args.scope.now in
    let whole = ap (after here) (ap plain_stmt_kind c.in-Fold.is ∙ fold_of c.in-Fold.l c.in-Fold.acc c.in-Fold.value c.in-Fold.comb) in
    seen_same c.reduce_typed-in-Fold.result _ _ _ (left_same here _ _ _ _ c.deref-in-Fold-2.ensures.value c.deref-in-Fold-3.ensures.value ∙ sym whole) c.reduce_typed-in-Fold.ensures.seen

pub stmt_typed-returns-in-Fold-clause-typed : goal.stmt_typed-returns-in-Fold-clause-typed
stmt_typed-returns-in-Fold-clause-typed t c =
    let here = here_of c.args.scope.now in
    let whole = ap (stmt_typed here) (ap plain_stmt_kind c.in-Fold.is ∙ fold_of c.in-Fold.l c.in-Fold.acc c.in-Fold.value c.in-Fold.comb) in
    stmt_same c.reduce_typed-in-Fold.result _ _
    (same_three (of_reduce here (out-SynLoop c.in-Fold.l).style true (plain_ident c.in-Fold.acc) (plain_expr c.in-Fold.value) c.in-Fold.comb.op) _ _ _ _ _ _ c.deref-in-Fold.ensures.value c.deref-in-Fold-2.ensures.value c.deref-in-Fold-3.ensures.value ∙ sym whole)
    c.reduce_typed-in-Fold.ensures.typed

pub stmt_typed-returns-in-MemReduce-clause-seen : goal.stmt_typed-returns-in-MemReduce-clause-seen
stmt_typed-returns-in-MemReduce-clause-seen t c =
    let here = here_of c.args.scope.now in
    let whole = ap (after here) (ap plain_stmt_kind c.in-MemReduce.is ∙ mem_reduce_of c.in-MemReduce.l c.in-MemReduce.acc c.in-MemReduce.value c.in-MemReduce.comb) in
    seen_same c.mem_reduce_typed.result _ _ _ (left_same here _ _ _ _ c.deref-in-MemReduce-2.ensures.value c.deref-in-MemReduce-3.ensures.value ∙ sym whole) c.mem_reduce_typed.ensures.seen

pub stmt_typed-returns-in-MemReduce-clause-typed : goal.stmt_typed-returns-in-MemReduce-clause-typed
stmt_typed-returns-in-MemReduce-clause-typed t c =
    let here = here_of c.args.scope.now in
    let whole = ap (stmt_typed here) (ap plain_stmt_kind c.in-MemReduce.is ∙ mem_reduce_of c.in-MemReduce.l c.in-MemReduce.acc c.in-MemReduce.value c.in-MemReduce.comb) in
    stmt_same c.mem_reduce_typed.result _ _
    (same_three (of_mem_reduce here (out-SynLoop c.in-MemReduce.l).style (plain_ident c.in-MemReduce.acc) (plain_expr c.in-MemReduce.value) c.in-MemReduce.comb.op) _ _ _ _ _ _ c.deref-in-MemReduce.ensures.value c.deref-in-MemReduce-2.ensures.value c.deref-in-MemReduce-3.ensures.value ∙ sym whole)
    c.mem_reduce_typed.ensures.typed

pub stmt_typed-returns-in_ok-ctl-in-Fsm-clause-seen : goal.stmt_typed-returns-in_ok-ctl-in-Fsm-clause-seen
stmt_typed-returns-in_ok-ctl-in-Fsm-clause-seen t c =
    let here = here_of c.args.scope.now in
    let ss = body (plain_stmts c.in-Fsm.body.items) in
    let whole = ap (after here) (ap plain_stmt_kind c.in-Fsm.is ∙ fsm_of c.in-Fsm.start c.in-Fsm.tested c.in-Fsm.test c.in-Fsm.now c.in-Fsm.body c.in-Fsm.last c.in-Fsm.state) in
    let there = c.in_ok-typed_body-in-Fsm.ensures.seen
    ∙ ap (λ h. past_turn h (body (plain_stmts c.deref-in-Fsm.result.now))) c.in_ok-typed_test-in-Fsm.ensures.seen
    ∙ ap (λ xs. past_turn here (body (plain_stmts xs))) c.deref-in-Fsm.ensures.value in
    any_ok c.control-in-Fsm.result _
    (c.in_ok-typed_next-in-Fsm.ensures.seen ∙ ap (λ h. here_with h.names h.mems (h.vals + 1) h.counters) there
    ∙ past_fsm here (plain_expr c.in-Fsm.start) (plain_ident c.in-Fsm.tested) (plain_expr c.in-Fsm.test) (plain_ident c.in-Fsm.now) ss (plain_ident c.in-Fsm.last) (plain_expr c.in-Fsm.state)
    ∙ sym whole)

abbrev of_fsm : (start : PlainExpr) (tested : PlainIdent) (test : PlainExpr) (now : PlainIdent) (last : PlainIdent) (next : PlainExpr) → Here → PlainStmts → Ty → Here → Here → program.PlainStmtKind
of_fsm start tested test now last next here ss ty there beyond =
    program.fsm (typed here ty start) here.vals (typed (with_state here tested ty here.vals) Bit test) (here.vals + 1) (body_typed (in_fsm there now ty) ss) beyond.vals (typed (with_state beyond last ty beyond.vals) ty next)

pub stmt_typed-returns-in_ok-ctl-in-Fsm-clause-typed : goal.stmt_typed-returns-in_ok-ctl-in-Fsm-clause-typed
stmt_typed-returns-in_ok-ctl-in-Fsm-clause-typed t c =
    let here = here_of c.args.scope.now in
    let ss = body (plain_stmts c.in-Fsm.body.items) in
    let whole = ap (stmt_typed here) (ap plain_stmt_kind c.in-Fsm.is ∙ fsm_of c.in-Fsm.start c.in-Fsm.tested c.in-Fsm.test c.in-Fsm.now c.in-Fsm.body c.in-Fsm.last c.in-Fsm.state) in
    let form = of_fsm (plain_expr c.in-Fsm.start) (plain_ident c.in-Fsm.tested) (plain_expr c.in-Fsm.test) (plain_ident c.in-Fsm.now) (plain_ident c.in-Fsm.last) (plain_expr c.in-Fsm.state) here in
    let there = c.in_ok-typed_body-in-Fsm.ensures.seen
    ∙ ap (λ h. past_turn h (body (plain_stmts c.deref-in-Fsm.result.now))) c.in_ok-typed_test-in-Fsm.ensures.seen
    ∙ ap (λ xs. past_turn here (body (plain_stmts xs))) c.deref-in-Fsm.ensures.value in
    let start = tree_expr c.in_ok-typed_start-in-Fsm.typed_start in
    let test = tree_expr c.in_ok-typed_test-in-Fsm.typed_test in
    let inner = tree.plain_stmts c.in_ok-typed_body-in-Fsm.typed_body.items in
    let end = (here_of c.turn_typed.new.scope).vals in
    let next = tree_expr c.in_ok-typed_next-in-Fsm.typed_next in
    let ty = c.type_by_itself-ty.result in
    stmt_same c.control-in-Fsm.result _ _
    (c.in_ok-ctl-in-Fsm.ensures
    ∙ ap (λ x. program.fsm x here.vals test (here.vals + 1) inner end next) c.in_ok-typed_start-in-Fsm.ensures
    ∙ ap (λ x. program.fsm (typed here ty (plain_expr c.in-Fsm.start)) here.vals x (here.vals + 1) inner end next) c.in_ok-typed_test-in-Fsm.ensures.typed
    ∙ ap (λ x. program.fsm (typed here ty (plain_expr c.in-Fsm.start)) here.vals (typed (with_state here (plain_ident c.in-Fsm.tested) ty here.vals) Bit (plain_expr c.in-Fsm.test)) (here.vals + 1) x end next) c.in_ok-typed_body-in-Fsm.ensures.typed
    ∙ ap (λ x. program.fsm (typed here ty (plain_expr c.in-Fsm.start)) here.vals (typed (with_state here (plain_ident c.in-Fsm.tested) ty here.vals) Bit (plain_expr c.in-Fsm.test)) (here.vals + 1)
    (body_typed (in_fsm (here_of c.under_state.new.scope) (plain_ident c.in-Fsm.now) ty) (body (plain_stmts c.deref-in-Fsm.result.now))) end x) c.in_ok-typed_next-in-Fsm.ensures.typed
    ∙ ap (λ xs. form (body (plain_stmts xs)) ty (here_of c.under_state.new.scope) (here_of c.turn_typed.new.scope)) c.deref-in-Fsm.ensures.value
    ∙ same_three (form ss) _ _ _ _ _ _ c.type_by_itself-ty.ensures c.in_ok-typed_test-in-Fsm.ensures.seen there
    ∙ sym whole)
    c.control-in-Fsm.ensures

pub stmt_typed-returns-in_ok-no-in-If-clause-seen : goal.stmt_typed-returns-in_ok-no-in-If-clause-seen
stmt_typed-returns-in_ok-no-in-If-clause-seen t c =
    let here = here_of c.args.scope.now in
    let first = body (plain_stmts c.in-If.first.items) in
    let second = body (plain_stmts c.in-If.second.items) in
    let whole = ap (after here) (ap plain_stmt_kind c.in-If.is ∙ branch_of c.in-If.test c.in-If.first c.in-If.second) in
    let there = c.in_ok-yes-in-If.ensures.seen ∙ ap (λ xs. past_body here (body (plain_stmts xs))) c.deref-in-If.ensures.value in
    any_ok c.control-in-If.result _
    (c.in_ok-no-in-If.ensures.seen
    ∙ ap (λ h. past_body h (body (plain_stmts c.deref-in-If-2.result.now))) there
    ∙ ap (λ xs. past_body (past_body here first) (body (plain_stmts xs))) c.deref-in-If-2.ensures.value
    ∙ past_two here (plain_expr c.in-If.test) first second
    ∙ sym whole)

pub stmt_typed-returns-in_ok-no-in-If-clause-typed : goal.stmt_typed-returns-in_ok-no-in-If-clause-typed
stmt_typed-returns-in_ok-no-in-If-clause-typed t c =
    let here = here_of c.args.scope.now in
    let first = body (plain_stmts c.in-If.first.items) in
    let whole = ap (stmt_typed here) (ap plain_stmt_kind c.in-If.is ∙ branch_of c.in-If.test c.in-If.first c.in-If.second) in
    let there = c.in_ok-yes-in-If.ensures.seen ∙ ap (λ xs. past_body here (body (plain_stmts xs))) c.deref-in-If.ensures.value in
    stmt_same c.control-in-If.result _ _
    (c.branch_of.ensures
    ∙ same_three program.branch _ _ _ _ _ _ c.in_ok-typed_test-in-If.ensures
    (c.in_ok-yes-in-If.ensures.typed ∙ ap (λ xs. body_typed here (body (plain_stmts xs))) c.deref-in-If.ensures.value)
    (c.in_ok-no-in-If.ensures.typed ∙ ap (λ h. body_typed h (body (plain_stmts c.deref-in-If-2.result.now))) there ∙ ap (λ xs. body_typed (past_body here first) (body (plain_stmts xs))) c.deref-in-If-2.ensures.value)
    ∙ sym whole)
    c.control-in-If.ensures
