-- The stages of a program's core are of lane 0.
use Rattle.std.proofs.Common.{ℕ, suc, ◌+◌, Bool, true, false, List, [], ◌∷◌, ◌++◌, refl, if◌then◌else◌}
use Rattle.std.specs.Prelude.{length}
use Rattle.sp_tree.specs.PlainExpression.{PlainExpr, type_of}
use Rattle.sp_tree.specs.PlainProgram.{PlainMem}
use Rattle.sp_tree.specs.PlainStatement.{PlainSpan, PlainStmtKind, PlainStmts, stmt, declare, name, set_reg, set_out, set_sram, enq, load_sram, load_line, store, gather, scatter, foreach, reduce, mem_reduce, no_stmt, more_stmt}
use Rattle.sp_core.specs.PlainCore.{PlainOp, PlainNode, PlainStages, no_stage, more_stage}
use Rattle.sp_sugar.specs.Early.{bounds_of, is_early, is_early_slice, bound_stages, slice_stage, early_stages}
use Rattle.sp_sugar.specs.Combination.{element_loop}
use Rattle.sp_sugar.specs.Operations.{Code, alone, code, read_op, write_op}
use Rattle.sp_tree.specs.Expressions.{mem, dims}
use Rattle.sp_sugar.specs.Registers.{beside, inside}
use Rattle.sp_sugar.specs.Runs.{Run, no_run, next_code}
use Rattle.sp_sugar.specs.Stages.{Combines, nothing, folds, reduces, reduces_elements, combination_stage, run_stage, last_stages, stages, node}
use Rattle.sp_sugar.specs.Uses.{Ending, no_more, in_last_run, in_combination}
use Rattle.sp_sugar.specs.Values.{Sources}
use Rattle.sp_sugar.proofs.NodeParts.{InLaneZero}

of_run : (ops : List PlainOp) (rest : PlainStages) → InLaneZero rest → InLaneZero (run_stage ops rest)
of_run [] rest z = z
of_run (op ∷ ops) rest z = (refl, refl, z)

of_stage : (comb : Bool) (x : PlainNode) (rest : PlainStages) → InLaneZero rest → InLaneZero (more_stage 0 0 comb x rest)
of_stage comb x rest z = (refl, refl, z)

of_choice : (b : Bool) (one two : PlainStages) → InLaneZero one → InLaneZero two → InLaneZero (if b then one else two)
of_choice true one two y z = y
of_choice false one two y z = z

module _ (mems : List PlainMem) (sources : Sources) where
  of_bounds : (r : ℕ) (es : List PlainExpr) (rest : PlainStages) → InLaneZero rest → InLaneZero (bound_stages mems sources r es rest)
  of_bounds r [] rest z = z
  of_bounds r (e ∷ es) rest z = of_choice (is_early e) _ _ (refl, refl, of_bounds (suc r) es rest z) (of_bounds r es rest z)

  of_slice : (r : ℕ) (spans : List PlainSpan) (rest : PlainStages) → InLaneZero rest → InLaneZero (slice_stage mems sources r spans rest)
  of_slice r spans rest z = of_choice (is_early_slice spans) _ _ (refl, refl, z) z

  of_early : (r : ℕ) (kind : PlainStmtKind) (rest : PlainStages) → InLaneZero rest → InLaneZero (early_stages mems sources r kind rest)
  of_early r (load_sram sram dram spans) rest z = of_slice r spans rest z
  of_early r (load_line line dram spans) rest z = of_slice r spans rest z
  of_early r (store dram spans sram) rest z = of_slice r spans rest z
  of_early r (gather sram dram places n) rest z = of_bounds r (n ∷ []) rest z
  of_early r (scatter dram places n sram) rest z = of_bounds r (n ∷ []) rest z
  of_early r (foreach style counters body) rest z = of_bounds r (bounds_of counters) rest z
  of_early r (reduce style fold acc counters body e comb) rest z = of_bounds r (bounds_of counters) rest z
  of_early r (mem_reduce style acc counters body part comb) rest z = of_bounds r (bounds_of counters) rest z
  of_early r _ rest z = z

module _ (mems : List PlainMem) (counters : ℕ) where
  of_combined : (x : Code) (c : Combines) → InLaneZero (combination_stage mems counters x c)
  of_combined x c = (refl, refl, tt)

  word_run : Run → ℕ → PlainExpr → List PlainOp
  word_run run n e = let x : Code = next_code mems run e in run.ops ++ x.ops ++ write_op (type_of e) n (x.word ∷ []) ∷ []

  of_word : (run : Run) (n : ℕ) (e : PlainExpr) (c : Combines) → InLaneZero (run_stage (word_run run n e) (combination_stage mems counters (alone 0 (read_op (type_of e) n [])) c))
  of_word run n e c = of_run (word_run run n e) (combination_stage mems counters (alone 0 (read_op (type_of e) n [])) c) (of_combined (alone 0 (read_op (type_of e) n [])) c)

  of_place : (run : Run) (e : PlainExpr) (c : Combines) → InLaneZero (run_stage run.ops (combination_stage mems counters (code mems run.values.elsewhere 0 e) c))
  of_place run e c = of_run run.ops (combination_stage mems counters (code mems run.values.elsewhere 0 e) c) (of_combined (code mems run.values.elsewhere 0 e) c)

  of_elements : (run : Run) (x : PlainNode) → InLaneZero (run_stage run.ops (more_stage 0 0 true x no_stage))
  of_elements run x = of_run run.ops (more_stage 0 0 true x no_stage) (refl, refl, tt)

  of_last : (run : Run) (n : ℕ) (ending : Ending) (c : Combines) → InLaneZero (last_stages mems counters run n ending c)
  unfolding word_run
  of_last run n ending (reduces_elements part acc begun comb) = of_elements run (element_loop mems counters (dims mems part) part acc begun (mem mems part).ty comb)
  of_last run n no_more nothing = of_run run.ops no_stage tt
  of_last run n no_more (folds acc comb e) = of_run run.ops no_stage tt
  of_last run n no_more (reduces acc begun comb e) = of_run run.ops no_stage tt
  of_last run n (in_combination x) nothing = of_place run x nothing
  of_last run n (in_combination x) (folds acc comb e) = of_place run x (folds acc comb e)
  of_last run n (in_combination x) (reduces acc begun comb e) = of_place run x (reduces acc begun comb e)
  of_last run n (in_last_run x) nothing = of_word run n x nothing
  of_last run n (in_last_run x) (folds acc comb e) = of_word run n x (folds acc comb e)
  of_last run n (in_last_run x) (reduces acc begun comb e) = of_word run n x (reduces acc begun comb e)

  of_kind : (run : Run) (b n : ℕ) (kind : PlainStmtKind) (later : PlainStages) → InLaneZero later → InLaneZero (run_stage run.ops (early_stages mems run.values.elsewhere b kind (more_stage 0 0 false (node mems counters run.values.elsewhere b n kind) later)))
  of_kind run b n kind later z =
      let here : PlainStages = more_stage 0 0 false (node mems counters run.values.elsewhere b n kind) later in
      of_run run.ops (early_stages mems run.values.elsewhere b kind here) (of_early mems run.values.elsewhere b kind here (refl, refl, z))

  pub of_stages : (run : Run) (n : ℕ) (body : PlainStmts) (ending : Ending) (c : Combines) → InLaneZero (stages mems counters run n body ending c)
  unfolding stages node
  of_stages run n no_stmt ending c = of_last run n ending c
  of_stages run n (more_stmt (stmt place (declare m)) rest) ending c = of_stages _ _ rest ending c
  of_stages run n (more_stmt (stmt place (name v e)) rest) ending c = of_stages _ _ rest ending c
  of_stages run n (more_stmt (stmt place (set_reg m e)) rest) ending c = of_stages _ _ rest ending c
  of_stages run n (more_stmt (stmt place (set_out m e)) rest) ending c = of_stages _ _ rest ending c
  of_stages run n (more_stmt (stmt place (set_sram m is e)) rest) ending c = of_stages _ _ rest ending c
  of_stages run n (more_stmt (stmt place (enq m e)) rest) ending c = of_stages _ _ rest ending c
  of_stages run n (more_stmt (stmt place kind) rest) ending c =
      let b : ℕ = n + length (beside kind rest ending) in
      let later : PlainStages = stages mems counters (no_run run.values.elsewhere) (b + length (inside kind)) rest ending c in
      of_kind run n b kind later (of_stages (no_run run.values.elsewhere) (b + length (inside kind)) rest ending c)
