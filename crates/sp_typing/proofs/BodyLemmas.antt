-- Statements without refusals are typed, and name no accumulator around.
use Rattle.std.proofs.Common.{◌≡◌, ℕ, ◌+◌, true, false, List, [], ◌∷◌, ◌++◌, length, Some, None, refl, ap}
use Rattle.std.specs.Prelude.{All}
use Rattle.std.proofs.lemmas.List.{length-map}
use Rattle.sp_words.specs.declared.kind.Kind.TheVariants.{Reg, Sram, Fifo, LineBuf}
use Rattle.sp_words.specs.declared.types.Ty.TheVariants.{Bit}
use Rattle.sp_reader.specs.PlainTree.{PlainIdent, expr}
use Rattle.sp_reader.specs.PlainStatement.{PlainStmtKind, PlainStmts, stmt, reg, sram, fifo, line_buffer, bind, set, set_at, enq, load, store, gather, scatter, block, foreach, reduce, fold, mem_reduce, fsm, branch, no_stmt, more_stmt}
use Rattle.sp_tree.specs.Declarations.{IsDeclaration}
use Rattle.sp_tree.specs.PlainProgram.{PlainMem, PlainProgram}
use Rattle.sp_tree.specs.Typing.{Scope, with_val}
use Rattle.sp_tree.specs.Typing as program
use Rattle.sp_types.proofs.GrowthLemmas.{grows_after, grows_binds}
use Rattle.sp_types.specs.Spans.{with_binds, twice, comb_refusals}
use Rattle.sp_types.specs.Statements as rule
use Rattle.sp_types.specs.Types.{type_of, symbol_type}
use Rattle.sp_types.specs.Visible.{Visible, symbol_of}
use Rattle.sp_typed.proofs.CountLemmas.{same_count}
use Rattle.sp_typed.proofs.ExpressionLemmas.{by_itself}
use Rattle.sp_typed.proofs.NoneLemmas.{both_none, three_none, four_none}
use Rattle.sp_typed.proofs.StillLemmas.{still_right}
use Rattle.sp_typed.specs.Declarations.{mems_declared, mems_in, vals_declared, vals_in, counters_declared, counters_in, texts, after, in_loop, past_body, start_word}
use Rattle.sp_typed.specs.Expressions.{known, type_by_itself}
use Rattle.sp_typed.specs.Named.{Here}
use Rattle.sp_typed.specs.ReadTree.{IsReadBody, IsReadStmt}
use Rattle.sp_typed.specs.Statements.{stmt_typed, in_fsm}
use Rattle.sp_typing.specs.Places.{Place, Declares, StmtRight, BodyRight}
use Rattle.sp_typing.proofs.AccLemmas.{inner_scope, reduce_right, mem_reduce_right}
use Rattle.sp_typing.proofs.AloneLemmas.{expr_alone}
use Rattle.sp_typing.proofs.DeclareLemmas.{declared, bind_right, valued}
use Rattle.sp_typing.proofs.HeldLemmas.{held_left, held_right, held_from}
use Rattle.sp_typing.proofs.LoopLemmas.{head_right}
use Rattle.sp_typing.proofs.StateLemmas.{binders_held, in_turn, fsm_right}
use Rattle.sp_typing.proofs.TransferLemmas.{load_right, store_right, gather_right, scatter_right}
use Rattle.sp_typing.proofs.UsedLemmas.{kept, around_grows}
use Rattle.sp_typing.proofs.WriteLemmas.{set_right, set_at_right, enq_right}

-- ---- what is declared by a part of a body

module _ (p : PlainProgram) where
  declares_first : (here : Here) (ms ns : List PlainMem) (vs ws cs ds : List (List ℕ)) → Declares p here (ms ++ ns) (vs ++ ws) (cs ++ ds) → Declares p here ms vs cs
  declares_first here ms ns vs ws cs ds h = record {
    mems_held = held_left p.mems here.mems ms ns h.mems_held;
    vals_held = held_left p.vals here.vals vs ws h.vals_held;
    counters_held = held_left p.counters here.counters cs ds h.counters_held;
  }

  declares_rest : (here : Here) (place : ℕ) (kind : PlainStmtKind) (rest : PlainStmts)
      → Declares p here (mems_in place kind ++ mems_declared rest) (vals_in kind ++ vals_declared rest) (counters_in kind ++ counters_declared rest)
      → Declares p (after here kind) (mems_declared rest) (vals_declared rest) (counters_declared rest)
  declares_rest here place kind rest h = record {
    mems_held = held_from p.mems (here.mems + length (mems_in place kind)) (here.mems + length (mems_in 0 kind)) (mems_declared rest) (ap (λ n. here.mems + n) (same_count place kind))
        (held_right p.mems here.mems (mems_in place kind) (mems_declared rest) h.mems_held);
    vals_held = held_right p.vals here.vals (vals_in kind) (vals_declared rest) h.vals_held;
    counters_held = held_right p.counters here.counters (counters_in kind) (counters_declared rest) h.counters_held;
  }

  declares_inside : (here : Here) (binds : List PlainIdent) (ss : PlainStmts) → Declares p here (mems_declared ss) (vals_declared ss) (texts binds ++ counters_declared ss)
      → Declares p (in_loop here binds) (mems_declared ss) (vals_declared ss) (counters_declared ss)
  declares_inside here binds ss h = record {
    mems_held = h.mems_held;
    vals_held = h.vals_held;
    counters_held = held_from p.counters (here.counters + length (texts binds)) (here.counters + length binds) (counters_declared ss)
        (ap (λ n. here.counters + n) (length-map binds (λ (i : PlainIdent). i.text))) (held_right p.counters here.counters (texts binds) (counters_declared ss) h.counters_held);
  }

  declares_second : (here : Here) (first second : PlainStmts)
      → Declares p here (mems_declared first ++ mems_declared second) (vals_declared first ++ vals_declared second) (counters_declared first ++ counters_declared second)
      → Declares p (past_body here first) (mems_declared second) (vals_declared second) (counters_declared second)
  declares_second here first second h = record {
    mems_held = held_right p.mems here.mems (mems_declared first) (mems_declared second) h.mems_held;
    vals_held = held_right p.vals here.vals (vals_declared first) (vals_declared second) h.vals_held;
    counters_held = held_right p.counters here.counters (counters_declared first) (counters_declared second) h.counters_held;
  }

-- ---- statements

module _ (p : PlainProgram) (all : All IsDeclaration p.mems) where
  mutual
    pub body_right : (scope : Scope) (here : Here) (seen : Visible) (ss : PlainStmts) → Place p scope here.names seen.names
        → Declares p here (mems_declared ss) (vals_declared ss) (counters_declared ss) → IsReadBody ss → rule.body_refusals seen ss ≡ [] → BodyRight p scope here seen ss
    body_right scope here seen no_stmt at h read none = record { typed = tt; alone = λ acc around. tt; at_end = at }
    body_right scope here seen (more_stmt (stmt place kind) rest) at h read none =
        let f = both_none (rule.stmt_refusals seen place kind) (rule.body_refusals (rule.after seen kind) rest) none in
        let one = stmt_right scope here seen place kind at
        (declares_first p here (mems_in place kind) (mems_declared rest) (vals_in kind) (vals_declared rest) (counters_in kind) (counters_declared rest) h) read.0 f.0 in
        let others = body_right (program.after scope (stmt_typed here kind)) (after here kind) (rule.after seen kind) rest one.next (declares_rest p here place kind rest h) read.1 f.1 in
        record {
          typed = (one.typed, others.typed);
          alone = λ acc around. (one.alone acc around, others.alone acc (around_grows p seen (rule.after seen kind) acc (grows_after seen kind) around));
          at_end = others.at_end;
        }

    stmt_right : (scope : Scope) (here : Here) (seen : Visible) (place : ℕ) (kind : PlainStmtKind) → Place p scope here.names seen.names
        → Declares p here (mems_in place kind) (vals_in kind) (counters_in kind) → IsReadStmt kind → rule.stmt_refusals seen place kind ≡ [] → StmtRight p scope here seen kind
    stmt_right scope here seen place (reg i ty start) at h read none =
        let d = declared p scope here seen at place i Reg ty [] (start_word (known (type_of ty)) start) h.mems_held (both_none (rule.declaration_refusals seen i ty) _ none).0 in
        record { typed = d.new; alone = d.alone; next = d.next }
    stmt_right scope here seen place (sram i ty dims) at h read none =
        let d = declared p scope here seen at place i Sram ty dims None h.mems_held none in
        record { typed = d.new; alone = d.alone; next = d.next }
    stmt_right scope here seen place (fifo i ty depth) at h read none =
        let d = declared p scope here seen at place i Fifo ty (depth ∷ []) None h.mems_held none in
        record { typed = d.new; alone = d.alone; next = d.next }
    stmt_right scope here seen place (line_buffer i ty rows columns) at h read none =
        let d = declared p scope here seen at place i LineBuf ty (rows ∷ columns ∷ []) None h.mems_held none in
        record { typed = d.new; alone = d.alone; next = d.next }
    stmt_right scope here seen place (bind i (expr e k)) at h read none = bind_right p scope here seen at i e k h.vals_held read.1 none
    stmt_right scope here seen place (set i (expr e k)) at h read none = set_right p all scope here seen at i e k read none
    stmt_right scope here seen place (set_at i indices (expr e k)) at h read none = set_at_right p all scope here seen at i indices e k read.0 read.1 read.2 none
    stmt_right scope here seen place (enq i (expr e k)) at h read none = enq_right p all scope here seen at i e k read none
    stmt_right scope here seen place (load onto from spans) at h read none = load_right p scope here seen at onto from place spans read none
    stmt_right scope here seen place (store onto spans from) at h read none = store_right p scope here seen at onto from place spans read none
    stmt_right scope here seen place (gather onto from places count) at h read none = gather_right p scope here seen at onto from places place count read none
    stmt_right scope here seen place (scatter onto places count from) at h read none = scatter_right p scope here seen at onto places from place count read none
    stmt_right scope here seen place (block style ss) at h read none =
        let b = body_right scope here seen ss at h read none in
        record { typed = b.typed; alone = b.alone; next = at }
    stmt_right scope here seen place (foreach l ss) at h read none =
        let f = both_none (rule.head_refusals seen l.counters l.binds) (rule.body_refusals (with_binds seen l.binds) ss) none in
        let head = head_right p scope here seen l at (held_left p.counters here.counters (texts l.binds) (counters_declared ss) h.counters_held) read.0 f.0 in
        let b = body_right (inner_scope scope here l) (in_loop here l.binds) (with_binds seen l.binds) ss head.inside (declares_inside p here l.binds ss h) read.1 f.1 in
        record {
          typed = (read.0.style, head.counters, b.typed);
          alone = λ acc around. (head.alone acc around, b.alone acc (around_grows p seen (with_binds seen l.binds) acc (grows_binds seen l.binds) around));
          next = at;
        }
    stmt_right scope here seen place (reduce l ss acc (expr e k) c) at h read none =
        let inside = rule.acc_inside seen l.binds acc in
        let f = three_none (rule.acc_refusals seen Reg l.counters l.binds acc) (rule.body_refusals inside ss)
        (rule.value_refusals (symbol_type (symbol_of seen acc.text)) (rule.after_all inside ss) (expr e k) c) none in
        let g = both_none (rule.kind_use seen Reg acc) (rule.head_refusals seen l.counters l.binds) f.0 in
        let head = head_right p scope here seen l at (held_left p.counters here.counters (texts l.binds) (counters_declared ss) h.counters_held) read.0 g.1 in
        let b = body_right (inner_scope scope here l) (in_loop here l.binds) inside ss head.inside (declares_inside p here l.binds ss h) read.1 f.1 in
        let r = reduce_right p scope here seen l acc ss head false e k c read.0 read.2 read.3 (kept p scope here seen at acc Reg g.0) b f.2 in
        record { typed = r.typed; alone = r.alone; next = at }
    stmt_right scope here seen place (fold l ss acc (expr e k) c) at h read none =
        let inside = rule.acc_inside seen l.binds acc in
        let f = three_none (rule.acc_refusals seen Reg l.counters l.binds acc) (rule.body_refusals inside ss)
        (rule.value_refusals (symbol_type (symbol_of seen acc.text)) (rule.after_all inside ss) (expr e k) c) none in
        let g = both_none (rule.kind_use seen Reg acc) (rule.head_refusals seen l.counters l.binds) f.0 in
        let head = head_right p scope here seen l at (held_left p.counters here.counters (texts l.binds) (counters_declared ss) h.counters_held) read.0 g.1 in
        let b = body_right (inner_scope scope here l) (in_loop here l.binds) inside ss head.inside (declares_inside p here l.binds ss h) read.1 f.1 in
        let r = reduce_right p scope here seen l acc ss head true e k c read.0 read.2 read.3 (kept p scope here seen at acc Reg g.0) b f.2 in
        record { typed = r.typed; alone = r.alone; next = at }
    stmt_right scope here seen place (mem_reduce l ss acc v c) at h read none =
        let inside = rule.acc_inside seen l.binds acc in
        let f = four_none (rule.acc_refusals seen Sram l.counters l.binds acc) (rule.body_refusals inside ss)
        (rule.part_if (rule.is_visible (with_binds seen l.binds) v) (rule.after_all inside ss) acc.text v) (comb_refusals (symbol_type (symbol_of seen acc.text)) c) none in
        let g = both_none (rule.kind_use seen Sram acc) (rule.head_refusals seen l.counters l.binds) f.0 in
        let head = head_right p scope here seen l at (held_left p.counters here.counters (texts l.binds) (counters_declared ss) h.counters_held) read.0 g.1 in
        let b = body_right (inner_scope scope here l) (in_loop here l.binds) inside ss head.inside (declares_inside p here l.binds ss h) read.1 f.1 in
        let r = mem_reduce_right p scope here seen l acc ss head v c read.0 read.3 (kept p scope here seen at acc Sram g.0) b f.2 f.3 in
        record { typed = r.typed; alone = r.alone; next = at }
    stmt_right scope here seen place (fsm (expr e k) tested test now ss last next) at h read none =
        let start = expr e k in
        let ty = type_by_itself here start in
        let f = three_none (rule.begin_refusals seen start tested test) (twice seen now ++ rule.body_refusals (rule.with_state seen start now) ss) (rule.next_refusals seen start last next) none in
        let g = both_none (twice seen now) (rule.body_refusals (rule.with_state seen start now) ss) f.1 in
        let own_is = by_itself p scope here seen at.agree at.same (rule.still (rule.state seen start)) start (both_none _ _ f.0).0 in
        let held = binders_held p here.vals tested.text now.text (vals_declared ss) last.text h.vals_held in
        let at_now = valued p scope here seen at now ty (rule.state seen start) (here.vals + 1) g.0 own_is held.now_at in
        let b = body_right (with_val scope (here.vals + 1) ty) (in_fsm here now ty) (rule.with_state seen start now) ss at_now
        (in_turn p scope here seen at now ty (mems_declared ss) (vals_declared ss) (counters_declared ss) h.mems_held held.inner_held h.counters_held) read.4 g.1 in
        let r = fsm_right p scope here seen at e k tested test now ss last next read.0 read.2 read.6 held f.0 g.0 f.2 b in
        record { typed = r.typed; alone = r.alone; next = at }
    stmt_right scope here seen place (branch test first second) at h read none =
        let f = three_none (rule.test_refusals seen test) (rule.body_refusals seen first) (rule.body_refusals seen second) none in
        let one = body_right scope here seen first at
        (declares_first p here (mems_declared first) (mems_declared second) (vals_declared first) (vals_declared second) (counters_declared first) (counters_declared second) h) read.1 f.1 in
        let other = body_right scope (past_body here first) seen second at (declares_second p here first second h) read.2 f.2 in
        record {
          typed = (still_right p scope here seen at.agree at.same (rule.still (Some Bit)) Bit test refl refl read.0 f.0, one.typed, other.typed);
          alone = λ acc around. (expr_alone p scope here seen at acc around (rule.still (Some Bit)) Bit test read.0 f.0, one.alone acc around, other.alone acc around);
          next = at;
        }
