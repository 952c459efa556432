-- The numbers of the counters that a typed body declares.
use Rattle.std.proofs.Common.{◌≡◌, ℕ, [], refl, ap, ◌∙◌, add-zero}
use Rattle.sp_reader.specs.PlainStatement.{PlainStmtKind, PlainStmts, stmt, reg, sram, fifo, line_buffer, bind, set, set_at, enq, load, store, gather, scatter, block, foreach, reduce, fold, mem_reduce, fsm, branch, no_stmt, more_stmt}
use Rattle.sp_tree.specs.Structure as program
use Rattle.sp_types.specs.Spans.{with_binds}
use Rattle.sp_types.specs.Statements as rule
use Rattle.sp_types.specs.Visible.{Visible}
use Rattle.sp_typed.specs.Declarations.{counters_declared, counters_in, after, in_loop, past_body}
use Rattle.sp_typed.specs.Expressions.{symbol_at, is_line, type_by_itself}
use Rattle.sp_typed.specs.Named.{Here}
use Rattle.sp_typed.specs.ReadTree.{IsReadBody, IsReadStmt}
use Rattle.sp_typed.specs.Statements.{body_typed, stmt_typed, is_output, in_fsm}
use Rattle.sp_typed.proofs.CountLemmas.{write_counters, load_counters, of_loop, acc_none, mem_none}
use Rattle.sp_typed.proofs.NoneLemmas.{both_none, three_none}
use Rattle.sp_typed.proofs.NumberLemmas.{places, places_two}

mutual
  pub counters_numbered : (here : Here) (seen : Visible) (ss : PlainStmts) → IsReadBody ss → rule.body_refusals seen ss ≡ []
      → program.counters_declared (body_typed here ss) ≡ places here.counters (counters_declared ss)
  counters_numbered here seen no_stmt is none = refl
  counters_numbered here seen (more_stmt (stmt place kind) rest) is none =
      let f = both_none _ _ none in
      places_two here.counters (counters_in kind) (counters_declared rest) _ _ (counters_of here seen place kind is.0 f.0)
      (counters_numbered (after here kind) (rule.after seen kind) rest is.1 f.1)

  counters_of : (here : Here) (seen : Visible) (place : ℕ) (kind : PlainStmtKind) → IsReadStmt kind → rule.stmt_refusals seen place kind ≡ []
      → program.counters_in (stmt_typed here kind) ≡ places here.counters (counters_in kind)
  counters_of here seen place (reg i ty start) is none = refl
  counters_of here seen place (sram i ty dims) is none = refl
  counters_of here seen place (fifo i ty depth) is none = refl
  counters_of here seen place (line_buffer i ty rows columns) is none = refl
  counters_of here seen place (bind i e) is none = refl
  counters_of here seen place (set i e) is none = write_counters (is_output (symbol_at here i)) _ _
  counters_of here seen place (set_at i indices e) is none = refl
  counters_of here seen place (enq i e) is none = refl
  counters_of here seen place (load onto from spans) is none = load_counters (is_line (symbol_at here onto)) _ _ _
  counters_of here seen place (store onto spans from) is none = refl
  counters_of here seen place (gather onto from places count) is none = refl
  counters_of here seen place (scatter onto places count from) is none = refl
  counters_of here seen place (block style ss) is none = counters_numbered here seen ss is none
  counters_of here seen place (foreach h ss) is none =
      let f = both_none (rule.head_refusals seen h.counters h.binds) (rule.body_refusals (with_binds seen h.binds) ss) none in
      of_loop here seen h _ _ is.0 f.0 (counters_numbered (in_loop here h.binds) (with_binds seen h.binds) ss is.1 f.1)
  counters_of here seen place (reduce h ss acc v c) is none =
      let f = acc_none _ _ _ _ none in
      of_loop here seen h _ _ is.0 f.0 (counters_numbered (in_loop here h.binds) (rule.acc_inside seen h.binds acc) ss is.1 f.1)
  counters_of here seen place (fold h ss acc v c) is none =
      let f = acc_none _ _ _ _ none in
      of_loop here seen h _ _ is.0 f.0 (counters_numbered (in_loop here h.binds) (rule.acc_inside seen h.binds acc) ss is.1 f.1)
  counters_of here seen place (mem_reduce h ss acc v c) is none =
      let f = mem_none _ _ _ _ _ none in
      of_loop here seen h _ _ is.0 f.0 (counters_numbered (in_loop here h.binds) (rule.acc_inside seen h.binds acc) ss is.1 f.1)
  counters_of here seen place (fsm start tested test now ss last next) is none =
      let f = three_none (rule.begin_refusals seen start tested test) _ (rule.next_refusals seen start last next) none in
      let g = both_none _ _ f.1 in
      counters_numbered (in_fsm here now (type_by_itself here start)) (rule.with_state seen start now) ss is.4 g.1
      ∙ ap (λ n. places n (counters_declared ss)) (add-zero here.counters)
  counters_of here seen place (branch test first second) is none =
      let f = three_none (rule.test_refusals seen test) (rule.body_refusals seen first) (rule.body_refusals seen second) none in
      places_two here.counters (counters_declared first) (counters_declared second) _ _ (counters_numbered here seen first is.1 f.1)
      (counters_numbered (past_body here first) seen second is.2 f.2)
