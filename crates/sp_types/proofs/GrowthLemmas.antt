-- What is visible only grows in a body, so that what was visible before comes back when it is cut to its length.
use Rattle.std.proofs.Common.{◌≡◌, ℕ, Bool, true, false, cond, List, [], ◌∷◌, ◌++◌, length, take, append-nil, append_assoc, is_some, refl, sym, ap, ◌∙◌, arith}
use Rattle.std.proofs.Math.Seq.{take-append_seam}
use Rattle.sp_reader.specs.PlainTree.{PlainIdent}
use Rattle.sp_reader.specs.PlainStatement.{PlainStmt, PlainStmtKind, PlainStmts, stmt, reg, sram, fifo, line_buffer, bind, set, set_at, enq, load, store, gather, scatter, block, foreach, reduce, fold, mem_reduce, fsm, branch, no_stmt, more_stmt}
use Rattle.sp_types.specs.Visible.{PlainSymbol, counter, Visible, symbol_of, declare, with_acc, back_to}
use Rattle.sp_types.specs.Spans.{with_binds}
use Rattle.sp_types.specs.Statements.{after, after_all, acc_inside}

pub record Grows (s t : Visible) : Type 0 where
  pub names : List (List ℕ × PlainSymbol)
  pub busy : List (List ℕ)
  pub names_is : t.names ≡ s.names ++ names
  pub busy_is : t.busy ≡ s.busy ++ busy

pub grows_same : (s : Visible) → Grows s s
grows_same s = record { names = []; busy = []; names_is = sym (append-nil s.names); busy_is = sym (append-nil s.busy) }

pub grows_on : (s t u : Visible) → Grows s t → Grows t u → Grows s u
grows_on s t u g h = record {
  names = g.names ++ h.names;
  busy = g.busy ++ h.busy;
  names_is = h.names_is ∙ ap (λ ns. ns ++ h.names) g.names_is ∙ append_assoc s.names g.names h.names;
  busy_is = h.busy_is ∙ ap (λ bs. bs ++ h.busy) g.busy_is ∙ append_assoc s.busy g.busy h.busy;
}

either_way : (b : Bool) (s t : Visible) → Grows s t → Grows s (cond b s t)
either_way true s t g = grows_same s
either_way false s t g = g

pub grows_declare : (s : Visible) (name : List ℕ) (symbol : PlainSymbol) → Grows s (declare s name symbol)
unfolding declare
grows_declare s name symbol =
    either_way (is_some (symbol_of s name)) s (record { names = s.names ++ (name, symbol) ∷ []; busy = s.busy })
    (record { names = (name, symbol) ∷ []; busy = []; names_is = refl; busy_is = sym (append-nil s.busy) })

pub grows_acc : (s : Visible) (acc : List ℕ) → Grows s (with_acc s acc)
grows_acc s acc = record { names = []; busy = acc ∷ []; names_is = sym (append-nil s.names); busy_is = refl }

pub grows_binds : (s : Visible) (binds : List PlainIdent) → Grows s (with_binds s binds)
grows_binds s [] = grows_same s
grows_binds s (i ∷ rest) = grows_on s _ _ (grows_declare s i.text counter) (grows_binds (declare s i.text counter) rest)

pub grows_after : (s : Visible) (kind : PlainStmtKind) → Grows s (after s kind)
grows_after s (reg i ty start) = grows_declare s i.text _
grows_after s (sram i ty dims) = grows_declare s i.text _
grows_after s (fifo i ty depth) = grows_declare s i.text _
grows_after s (line_buffer i ty rows columns) = grows_declare s i.text _
grows_after s (bind i e) = grows_declare s i.text _
grows_after s _ = grows_same s

pub grows_all : (s : Visible) (ss : PlainStmts) → Grows s (after_all s ss)
grows_all s no_stmt = grows_same s
grows_all s (more_stmt (stmt place kind) rest) = grows_on s _ _ (grows_after s kind) (grows_all (after s kind) rest)

pub back : (s t : Visible) → Grows s t → back_to (length s.names) (length s.busy) t ≡ s
back s t g =
    let shown : List (List ℕ × PlainSymbol) → List (List ℕ) → Visible = λ ns bs. record { names = ns; busy = bs } in
    ap (λ ns. shown (take (length s.names) ns) (take (length s.busy) t.busy)) g.names_is
    ∙ ap (λ ns. shown ns (take (length s.busy) t.busy)) (take-append_seam s.names g.names)
    ∙ ap (λ bs. shown s.names (take (length s.busy) bs)) g.busy_is
    ∙ ap (shown s.names) (take-append_seam s.busy g.busy)

-- after a body, after one with binders, and after one with an accumulator besides
pub back_body : (s : Visible) (ss : PlainStmts) → back_to (length s.names) (length s.busy) (after_all s ss) ≡ s
back_body s ss = back s _ (grows_all s ss)

pub back_loop : (s : Visible) (binds : List PlainIdent) (ss : PlainStmts) → back_to (length s.names) (length s.busy) (after_all (with_binds s binds) ss) ≡ s
back_loop s binds ss = back s _ (grows_on s _ _ (grows_binds s binds) (grows_all _ ss))

pub back_acc : (s : Visible) (binds : List PlainIdent) (acc : PlainIdent) (ss : PlainStmts) → back_to (length s.names) (length s.busy) (after_all (acc_inside s binds acc) ss) ≡ s
back_acc s binds acc ss = back s _ (grows_on s _ _ (grows_binds s binds) (grows_on _ _ _ (grows_acc (with_binds s binds) acc.text) (grows_all _ ss)))

pub back_declared : (s : Visible) (name : List ℕ) (symbol : PlainSymbol) → back_to (length s.names) (length s.busy) (declare s name symbol) ≡ s
back_declared s name symbol = back s _ (grows_declare s name symbol)

pub back_declared_body : (s : Visible) (name : List ℕ) (symbol : PlainSymbol) (ss : PlainStmts) → back_to (length s.names) (length s.busy) (after_all (declare s name symbol) ss) ≡ s
back_declared_body s name symbol ss = back s _ (grows_on s _ _ (grows_declare s name symbol) (grows_all _ ss))

-- what is left by a mark
pub left : (s t v w : Visible) (n m : ℕ) → v ≡ back_to n m w → n ≡ length s.names → m ≡ length s.busy → w ≡ t → back_to (length s.names) (length s.busy) t ≡ s → v ≡ s
left s t v w n m e f g h k = e ∙ ap (λ x. back_to x m w) f ∙ ap (λ x. back_to (length s.names) x w) g ∙ ap (back_to (length s.names) (length s.busy)) h ∙ k
