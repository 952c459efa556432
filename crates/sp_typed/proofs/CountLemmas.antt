-- The numbers that a typed body declares.
use Rattle.std.proofs.Common.{◌≡◌, ℕ, ◌+◌, Bool, true, false, List, [], ◌∷◌, ◌++◌, length, refl, sym, ap, ◌∙◌, arith}
use Rattle.std.proofs.lemmas.List.{length-map}
use Rattle.sp_reader.specs.PlainStatement.{PlainCounter, PlainHead}
use Rattle.sp_types.specs.declared.refusal.Refusal.{Refusal}
use Rattle.sp_types.specs.Statements as rule
use Rattle.sp_types.specs.Visible.{Visible}
use Rattle.sp_typed.specs.ReadTree.{IsReadHead}
use Rattle.sp_typed.proofs.NoneLemmas.{both_none, three_none, as_many}
use Rattle.sp_reader.specs.PlainStatement.{PlainStmtKind, PlainStmts, stmt, reg, sram, fifo, line_buffer, bind, set, set_at, enq, load, store, gather, scatter, block, foreach, reduce, fold, mem_reduce, fsm, branch, no_stmt, more_stmt}
use Rattle.sp_tree.specs.Structure as program
use Rattle.sp_tree.specs.PlainStatement as statement
use Rattle.sp_tree.specs.PlainExpression.{PlainExpr}
use Rattle.sp_typed.specs.Declarations.{mems_declared, mems_in, vals_declared, vals_in, after, in_loop, past_body, texts}
use Rattle.sp_typed.specs.Expressions.{symbol_at, type_by_itself, is_line}
use Rattle.sp_typed.specs.Named.{Here}
use Rattle.sp_typed.specs.Statements.{body_typed, stmt_typed, write, is_output, load_typed, counters_typed, in_fsm}
use Rattle.sp_typed.proofs.NumberLemmas.{places, places_append, places_two, places_same, places_of_map}

-- ---- values

write_vals : (b : Bool) (n : ℕ) (e : PlainExpr) → program.vals_in (write b n e) ≡ []
write_vals true n e = refl
write_vals false n e = refl

load_vals : (b : Bool) (m n : ℕ) (spans : List statement.PlainSpan) → program.vals_in (load_typed b m n spans) ≡ []
load_vals true m n spans = refl
load_vals false m n spans = refl

mutual
  pub vals_numbered : (here : Here) (ss : PlainStmts) → program.vals_declared (body_typed here ss) ≡ places here.vals (vals_declared ss)
  vals_numbered here no_stmt = refl
  vals_numbered here (more_stmt (stmt place kind) rest) = places_two here.vals (vals_in kind) (vals_declared rest) _ _ (vals_of here kind) (vals_numbered (after here kind) rest)

  vals_of : (here : Here) (kind : PlainStmtKind) → program.vals_in (stmt_typed here kind) ≡ places here.vals (vals_in kind)
  vals_of here (reg i ty start) = refl
  vals_of here (sram i ty dims) = refl
  vals_of here (fifo i ty depth) = refl
  vals_of here (line_buffer i ty rows columns) = refl
  vals_of here (bind i e) = refl
  vals_of here (set i e) = write_vals (is_output (symbol_at here i)) _ _
  vals_of here (set_at i indices e) = refl
  vals_of here (enq i e) = refl
  vals_of here (load onto from spans) = load_vals (is_line (symbol_at here onto)) _ _ _
  vals_of here (store onto spans from) = refl
  vals_of here (gather onto from places count) = refl
  vals_of here (scatter onto places count from) = refl
  vals_of here (block style ss) = vals_numbered here ss
  vals_of here (foreach h ss) = vals_numbered (in_loop here h.binds) ss
  vals_of here (reduce h ss acc v c) = vals_numbered (in_loop here h.binds) ss
  vals_of here (fold h ss acc v c) = vals_numbered (in_loop here h.binds) ss
  vals_of here (mem_reduce h ss acc v c) = vals_numbered (in_loop here h.binds) ss
  vals_of here (fsm start tested test now ss last next) =
      let e = vals_numbered (in_fsm here now (type_by_itself here start)) ss in
      ap (λ l. here.vals ∷ (here.vals + 1) ∷ l) (
      ap (λ l. l ++ (here.vals + (2 + length (vals_declared ss))) ∷ []) e
      ∙ ap (λ m. places (here.vals + 2) (vals_declared ss) ++ m ∷ []) (omega arith)
      ∙ sym (places_append (here.vals + 2) (vals_declared ss) (last.text ∷ []))
      ∙ ap (λ m. places m (vals_declared ss ++ last.text ∷ [])) (omega arith))
  vals_of here (branch test first second) = places_two here.vals (vals_declared first) (vals_declared second) _ _ (vals_numbered here first) (vals_numbered (past_body here first) second)

-- ---- memories

write_mems : (b : Bool) (n : ℕ) (e : PlainExpr) → program.mems_in (write b n e) ≡ []
write_mems true n e = refl
write_mems false n e = refl

load_mems : (b : Bool) (m n : ℕ) (spans : List statement.PlainSpan) → program.mems_in (load_typed b m n spans) ≡ []
load_mems true m n spans = refl
load_mems false m n spans = refl

-- the place of a statement changes no number
pub same_count : (place : ℕ) (kind : PlainStmtKind) → length (mems_in place kind) ≡ length (mems_in 0 kind)
same_count place (reg i ty start) = refl
same_count place (sram i ty dims) = refl
same_count place (fifo i ty depth) = refl
same_count place (line_buffer i ty rows columns) = refl
same_count place _ = refl

mutual
  pub mems_numbered : (here : Here) (ss : PlainStmts) → program.mems_declared (body_typed here ss) ≡ places here.mems (mems_declared ss)
  mems_numbered here no_stmt = refl
  mems_numbered here (more_stmt (stmt place kind) rest) =
      places_two here.mems (mems_in place kind) (mems_declared rest) _ _ (mems_of here place kind)
      (mems_numbered (after here kind) rest ∙ ap (λ n. places (here.mems + n) (mems_declared rest)) (sym (same_count place kind)))

  mems_of : (here : Here) (place : ℕ) (kind : PlainStmtKind) → program.mems_in (stmt_typed here kind) ≡ places here.mems (mems_in place kind)
  mems_of here place (reg i ty start) = refl
  mems_of here place (sram i ty dims) = refl
  mems_of here place (fifo i ty depth) = refl
  mems_of here place (line_buffer i ty rows columns) = refl
  mems_of here place (bind i e) = refl
  mems_of here place (set i e) = write_mems (is_output (symbol_at here i)) _ _
  mems_of here place (set_at i indices e) = refl
  mems_of here place (enq i e) = refl
  mems_of here place (load onto from spans) = load_mems (is_line (symbol_at here onto)) _ _ _
  mems_of here place (store onto spans from) = refl
  mems_of here place (gather onto from places count) = refl
  mems_of here place (scatter onto places count from) = refl
  mems_of here place (block style ss) = mems_numbered here ss
  mems_of here place (foreach h ss) = mems_numbered (in_loop here h.binds) ss
  mems_of here place (reduce h ss acc v c) = mems_numbered (in_loop here h.binds) ss
  mems_of here place (fold h ss acc v c) = mems_numbered (in_loop here h.binds) ss
  mems_of here place (mem_reduce h ss acc v c) = mems_numbered (in_loop here h.binds) ss
  mems_of here place (fsm start tested test now ss last next) =
      mems_numbered (in_fsm here now (type_by_itself here start)) ss ∙ ap (λ n. places n (mems_declared ss)) (omega arith)
  mems_of here place (branch test first second) = places_two here.mems (mems_declared first) (mems_declared second) _ _ (mems_numbered here first) (mems_numbered (past_body here first) second)

-- ---- counters

pub write_counters : (b : Bool) (n : ℕ) (e : PlainExpr) → program.counters_in (write b n e) ≡ []
write_counters true n e = refl
write_counters false n e = refl

pub load_counters : (b : Bool) (m n : ℕ) (spans : List statement.PlainSpan) → program.counters_in (load_typed b m n spans) ≡ []
load_counters true m n spans = refl
load_counters false m n spans = refl

of_counters : (here : Here) (n : ℕ) (cs : List PlainCounter) → program.counter_numbers (counters_typed here n cs) ≡ places n cs
of_counters here n [] = refl
of_counters here n (c ∷ cs) = ap (λ l. n ∷ l) (of_counters here (n + 1) cs)

-- the counters of a loop have the numbers of its binders
of_head : (here : Here) (seen : Visible) (h : PlainHead) → IsReadHead h → rule.head_refusals seen h.counters h.binds ≡ []
    → program.counter_numbers (counters_typed here here.counters h.counters) ≡ places here.counters (texts h.binds)
of_head here seen h is none =
    of_counters here here.counters h.counters
    ∙ places_same here.counters h.counters h.binds (as_many (length h.counters) h.binds is.binder (three_none _ _ _ none).1)
    ∙ sym (places_of_map here.counters (λ i. i.text) h.binds)

-- with what the body of the loop declares
pub of_loop : (here : Here) (seen : Visible) (h : PlainHead) (inner : List ℕ) (names : List (List ℕ)) → IsReadHead h → rule.head_refusals seen h.counters h.binds ≡ []
    → inner ≡ places (in_loop here h.binds).counters names
    → program.counter_numbers (counters_typed here here.counters h.counters) ++ inner ≡ places here.counters (texts h.binds ++ names)
of_loop here seen h inner names is none e =
    places_two here.counters (texts h.binds) names _ _ (of_head here seen h is none)
    (e ∙ ap (λ n. places (here.counters + n) names) (sym (length-map h.binds (λ i. i.text))))

-- the parts of the refusals of a loop with an accumulator
pub acc_none : (acc head of_body rest : List Refusal) → acc ++ head ++ of_body ++ rest ≡ [] → (head ≡ []) × (of_body ≡ [])
acc_none acc head of_body rest e =
    let f = both_none (acc ++ head ++ of_body) rest e in
    let g = three_none acc head of_body f.0 in
    (g.1, g.2)

pub mem_none : (acc head of_body part rest : List Refusal) → acc ++ head ++ of_body ++ part ++ rest ≡ [] → (head ≡ []) × (of_body ≡ [])
mem_none acc head of_body part rest e = acc_none acc head of_body part (both_none (acc ++ head ++ of_body ++ part) rest e).0
