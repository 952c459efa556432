-- Runs of statements that are neither controllers nor transfers: their operations, in the order of the statements.
use Rattle.std.specs.Prelude.{ℕ, Bool, true, List, [], ◌∷◌, ◌++◌, length, Option, Some, None, if◌then◌else◌}
use Rattle.sp_tree.specs.Expressions.{mem}
use Rattle.sp_tree.specs.PlainExpression.{PlainExpr, type_of}
use Rattle.sp_tree.specs.PlainProgram.{PlainMem}
use Rattle.sp_tree.specs.PlainStatement.{PlainStmtKind, PlainStmts, stmt, declare, name, set_reg, set_out, set_sram, enq, no_stmt, more_stmt}
use Rattle.sp_core.specs.declared.operation.OpKind.TheVariants as kind
use Rattle.sp_core.specs.PlainCore.{PlainOp}
use Rattle.sp_core.specs.Sequential.{has_reset}
use Rattle.sp_sugar.specs.Numbers.{mem_number}
use Rattle.sp_sugar.specs.Operations.{Code, Codes, accesses, write_op, code, codes}
use Rattle.sp_sugar.specs.Values.{Source, at_place, in_register, Sources, Values, at_beginning, stands_for, with_value}

-- what a run has so far
pub record Run : Type 0 where
  pub ops : List PlainOp
  pub values : Values

abbrev pub no_run : Sources → Run
no_run sources = record { ops = []; values = at_beginning sources }

-- some operations are added
abbrev pub with_ops : Run → List PlainOp → Run
with_ops run ops = record run { ops = run.ops ++ ops }

-- the source, if there is one
abbrev pub source_or : Option Source → Source → Source
source_or (Some s) other = s
source_or None other = other

-- by the declarations of the program's memories
module _ (mems : List PlainMem) where
  -- an expression after what a run has
  abbrev pub next_code : Run → PlainExpr → Code
  next_code run e = code mems run.values.here (length run.ops) e

  -- a value that has operations, with its register where it crosses: its word is written there after them
  abbrev pub with_computed : Run → ℕ → PlainExpr → (register : Option ℕ) → Run
  with_computed run v e None =
      let x : Code = next_code run e in
      record { ops = run.ops ++ x.ops; values = with_value run.values v (at_place x.word) (at_place x.word) }
  with_computed run v e (Some r) =
      let x : Code = next_code run e in
      record { ops = run.ops ++ x.ops ++ write_op (type_of e) r (x.word ∷ []) ∷ []; values = with_value run.values v (at_place x.word) (in_register r) }

  abbrev pub with_named : Run → ℕ → PlainExpr → (register : Option ℕ) → Run
  with_named run v e register = elim (stands_for run.values.here e) [
    | Some s ↦ record run { values = with_value run.values v s (source_or (stands_for run.values.elsewhere e) s) }
    | None ↦ with_computed run v e register
  ]

  -- a declaration in an inner body, where a FIFO and a register with a start have a reset operation
  abbrev pub with_reset : Run → ℕ → Run
  with_reset run m =
      if has_reset (mem mems m).kind (mem mems m).start then with_ops run (accesses kind.Reset (mem mems m).ty (mem_number mems m) [] ∷ []) else run

  -- by the word of an expression, which is the last operand
  abbrev pub with_word : Run → PlainExpr → (ℕ → PlainOp) → Run
  with_word run e op = let x : Code = next_code run e in with_ops run (x.ops ++ op x.word ∷ [])

  -- a statement, in an inner body or not, with the register of its value where that crosses
  abbrev pub with_stmt : (is_inner : Bool) → (register : Option ℕ) → Run → PlainStmtKind → Run
  with_stmt true register run (declare m) = with_reset run m
  with_stmt is register run (name v e) = with_named run v e register
  with_stmt is register run (set_reg m e) = with_word run e (λ w. write_op (mem mems m).ty (mem_number mems m) (w ∷ []))
  with_stmt is register run (set_out m e) = with_word run e (λ w. write_op (mem mems m).ty (mem_number mems m) (w ∷ []))
  with_stmt is register run (set_sram m indices e) =
      let is : Codes = codes mems run.values.here (length run.ops) indices in
      with_word (with_ops run is.ops) e (λ w. write_op (mem mems m).ty (mem_number mems m) (is.words ++ w ∷ []))
  with_stmt is register run (enq m e) = with_word run e (λ w. accesses kind.Enq (mem mems m).ty (mem_number mems m) (w ∷ []))
  with_stmt is register run kind = run

  -- all statements of an inner body
  abbrev pub inner_run : Run → PlainStmts → Run
  inner_run run no_stmt = run
  inner_run run (more_stmt (stmt place kind) rest) = inner_run (with_stmt true None run kind) rest
