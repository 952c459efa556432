-- One statement of a body with stages: what it adds to the registers, to those that the body owns, and to the stages.
use Rattle.std.proofs.Common.{◌≡◌, ◌<◌, ◌+◌, ℕ, Bool, true, false, List, [], ◌++◌, append_assoc, length, length-append, get_or, drop, Option, Some, None, map, Vec, Global, arith, refl, sym, ap, ◌∙◌}
use mathlib.Core.Former.{Count}
use Rattle.sp_words.specs.declared.kind.Style.{Style}
use Rattle.sp_tree.specs.declared.statement.Stmt.{Stmt}
use Rattle.sp_tree.specs.PlainProgram as program
use Rattle.sp_tree.specs.PlainStatement.{PlainStmtKind, PlainStmts, stmt, declare, name, set_reg, set_out, set_sram, enq, load_sram, load_line, store, gather, scatter, block, foreach, reduce, mem_reduce, fsm, branch, more_stmt}
use Rattle.sp_tree.specs.PlainTree.{plain_stmt_kind, plain_stmts}
use Rattle.sp_tree.specs.Tallies.{Tally, primitive}
use Rattle.sp_core.specs.declared.node.CoreCounter.{CoreCounter}
use Rattle.sp_core.specs.declared.node.Node.{Node, Outer, Outer', Row_of-Stage, end_of-Stage, more_of-Stage, items-the_row-Stage, items_hidden-the_row-Stage-0}
use Rattle.sp_core.specs.declared.node.Stage.{Stage}
use Rattle.sp_core.specs.Plain.{plain_counter, plain_node, plain_stages, plain_stage_list}
use Rattle.sp_core.specs.PlainCore.{PlainMem, PlainStages, outer, more_stage}
use Rattle.sp_sugar.specs.Early.{early_stages}
use Rattle.sp_sugar.specs.Numbers.{numbers_from}
use Rattle.sp_sugar.specs.Registers.{at_end, beside, inside, registers, owned_registers}
use Rattle.sp_sugar.specs.Runs.{Run, no_run, with_stmt}
use Rattle.sp_sugar.specs.Stages.{Combines, first_of, run_stage, last_stages, node, stages}
use Rattle.sp_sugar.specs.Uses.{Ending}
use Rattle.sp_desugar.specs.Names.{is_primitive}
use Rattle.sp_desugar.proofs.UseLemmas.{drop_here}

abbrev Number : Type 0
Number = (n : Count) × Row_of-Stage n

abbrev row_of : Node → Number
row_of (Outer' counters style owned _ row) = (_, row)
row_of _ = (_, end_of-Stage)

plain_row : (n : _) (row : Row_of-Stage n) → plain_stages row ≡ plain_stage_list (items-the_row-Stage n row)
plain_row n end_of-Stage = refl
plain_row n (more_of-Stage first last comb node rest) = ap (more_stage first last comb (plain_node node)) (plain_row _ rest)

pub plain_outer : (counters : Vec CoreCounter Global) (style : Style) (owned : Vec ℕ Global) (all : Vec Stage Global)
    → plain_node (Outer counters style owned all) ≡ outer (map plain_counter counters.items) style owned.items (plain_stage_list all.items)
plain_outer counters style owned all =
    let row = row_of (Outer counters style owned all) in
    ap (outer (map plain_counter counters.items) style owned.items) (plain_row row.0 row.1 ∙ ap plain_stage_list (items_hidden-the_row-Stage-0 all))

-- a statement that is neither a controller nor a transfer has no registers inside
pub inside_primitive : (kind : PlainStmtKind) → is_primitive kind ≡ true → inside kind ≡ []
unfolding inside
inside_primitive (declare m) h = refl
inside_primitive (name v e) h = refl
inside_primitive (set_reg m e) h = refl
inside_primitive (set_out m e) h = refl
inside_primitive (set_sram m indices e) h = refl
inside_primitive (enq m e) h = refl
inside_primitive (load_sram sram dram spans) h = absurd (cc)
inside_primitive (load_line line dram spans) h = absurd (cc)
inside_primitive (store dram spans sram) h = absurd (cc)
inside_primitive (gather sram dram places n) h = absurd (cc)
inside_primitive (scatter dram places n sram) h = absurd (cc)
inside_primitive (block style body) h = absurd (cc)
inside_primitive (foreach style counters body) h = absurd (cc)
inside_primitive (reduce style fold acc counters body e comb) h = absurd (cc)
inside_primitive (mem_reduce style acc counters body part comb) h = absurd (cc)
inside_primitive (fsm start tested test state body last next) h = absurd (cc)
inside_primitive (branch test first second) h = absurd (cc)

takes_first : (o : Option Tally) (x y : PlainStages) → elim o as (λ _. Bool) [ Some t ↦ true | None ↦ false ] ≡ true → elim o as (λ _. PlainStages) [ Some t ↦ x | None ↦ y ] ≡ x
takes_first (Some t) x y h = refl
takes_first None x y h = absurd (cc)

takes_second : (o : Option Tally) (x y : PlainStages) → elim o as (λ _. Bool) [ Some t ↦ true | None ↦ false ] ≡ false → elim o as (λ _. PlainStages) [ Some t ↦ x | None ↦ y ] ≡ y
takes_second (Some t) x y h = absurd (cc)
takes_second None x y h = refl

module _ (mems : List program.PlainMem) (counters : ℕ) where
  -- the stages of a body from a statement on: it belongs to the run, or ends it
  pub stages_in_run : (run : Run) (n place : ℕ) (kind : PlainStmtKind) (rest : PlainStmts) (ending : Ending) (c : Combines) → is_primitive kind ≡ true
      → stages mems counters run n (more_stmt (stmt place kind) rest) ending c
      ≡ stages mems counters (with_stmt mems false (first_of n (beside kind rest ending)) run kind) (n + length (beside kind rest ending)) rest ending c
  unfolding stages
  stages_in_run run n place kind rest ending c h = takes_first (primitive kind) _ _ h

  pub stages_after_run : (run : Run) (n place : ℕ) (kind : PlainStmtKind) (rest : PlainStmts) (ending : Ending) (c : Combines) → is_primitive kind ≡ false
      → stages mems counters run n (more_stmt (stmt place kind) rest) ending c
      ≡ run_stage run.ops (early_stages mems run.values.elsewhere n kind (more_stage 0 0 false
      (node mems counters run.values.elsewhere n (n + length (beside kind rest ending)) kind)
      (stages mems counters (no_run run.values.elsewhere) (n + length (beside kind rest ending) + length (inside kind)) rest ending c)))
  unfolding stages
  stages_after_run run n place kind rest ending c h = takes_second (primitive kind) _ _ h

  pub stages_at_end : (run : Run) (n : ℕ) (body : List Stmt) (ending : Ending) (c : Combines) → body ≡ []
      → stages mems counters run n (plain_stmts body) ending c ≡ last_stages mems counters run n ending c
  unfolding stages
  stages_at_end run n body ending c e = ap (λ b. stages mems counters run n (plain_stmts b) ending c) e

abbrev kind_at : Stmt → PlainStmtKind
kind_at s = plain_stmt_kind s.kind

-- registers and those that the body owns
pub registers_step : (now after : List PlainMem) (body : List Stmt) (i : ℕ) (s : Stmt) (ending : Ending) → i < length body → s ≡ get_or body i s
    → after ≡ now ++ (beside (kind_at s) (plain_stmts (drop (i + 1) body)) ending ++ inside (kind_at s))
    → after ++ registers (plain_stmts (drop (i + 1) body)) ending ≡ now ++ registers (plain_stmts (drop i body)) ending
unfolding registers
registers_step now after body i s ending h e f =
    let rest = plain_stmts (drop (i + 1) body) in
    ap (λ x. x ++ registers rest ending) f
    ∙ append_assoc now (beside (kind_at s) rest ending ++ inside (kind_at s)) (registers rest ending)
    ∙ ap (λ b. now ++ registers (plain_stmts b) ending) (sym (drop_here body i s h e))

pub registers_at_end : (now : List PlainMem) (body : List Stmt) (ending : Ending) → body ≡ [] → now ++ registers (plain_stmts body) ending ≡ now ++ at_end ending
unfolding registers
registers_at_end now body ending e = ap (λ b. now ++ registers (plain_stmts b) ending) e

pub owned_step : (now after : List PlainMem) (owned more : List ℕ) (body : List Stmt) (i : ℕ) (s : Stmt) (ending : Ending) → i < length body → s ≡ get_or body i s
    → after ≡ now ++ (beside (kind_at s) (plain_stmts (drop (i + 1) body)) ending ++ inside (kind_at s))
    → more ≡ owned ++ numbers_from (length now) (length (beside (kind_at s) (plain_stmts (drop (i + 1) body)) ending))
    → more ++ owned_registers (length after) (plain_stmts (drop (i + 1) body)) ending ≡ owned ++ owned_registers (length now) (plain_stmts (drop i body)) ending
owned_step now after owned more body i s ending h e f g =
    let rest = plain_stmts (drop (i + 1) body) in
    let b = beside (kind_at s) rest ending in
    let n : length after ≡ length now + length b + length (inside (kind_at s)) =
    ap length f ∙ length-append now (b ++ inside (kind_at s)) ∙ omega (arith, length-append b (inside (kind_at s))) in
    ap (λ k. more ++ owned_registers k rest ending) n
    ∙ ap (λ x. x ++ owned_registers (length now + length b + length (inside (kind_at s))) rest ending) g
    ∙ append_assoc owned (numbers_from (length now) (length b)) (owned_registers (length now + length b + length (inside (kind_at s))) rest ending)
    ∙ ap (λ x. owned ++ owned_registers (length now) (plain_stmts x) ending) (sym (drop_here body i s h e))
