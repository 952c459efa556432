-- Of the stages of a body, those that aren't controllers own no stream block's memories.
use Rattle.std.proofs.Common.{◌≡◌, ℕ, suc, Bool, true, false, List, [], ◌∷◌, ◌++◌, None, refl, if◌then◌else◌}
use Rattle.sp_tree.specs.Expressions as expressions
use Rattle.sp_tree.specs.PlainExpression.{PlainExpr}
use Rattle.sp_tree.specs.PlainProgram.{PlainMem}
use Rattle.sp_tree.specs.PlainStatement.{PlainStmtKind, PlainStmts, declare, name, set_reg, set_out, set_sram, enq, load_sram, load_line, store, gather, scatter, block, foreach, reduce, mem_reduce, fsm, branch}
use Rattle.sp_core.specs.Declarations.{streamed, streamed_in}
use Rattle.sp_core.specs.declared.node.SparseKind.{SparseKind}
use Rattle.sp_core.specs.PlainCore as core
use Rattle.sp_core.specs.PlainCore.{PlainCounter, PlainOp, PlainNode, PlainStages, sparse, no_stage, more_stage}
use Rattle.sp_sugar.specs.Combination.{element_loop}
use Rattle.sp_sugar.specs.Early.{is_early, is_early_slice, is_early_part, bounds_of, parts_of, stage_of, into_register, bound_stages, slice_ops, early_stages}
use Rattle.sp_sugar.specs.Operations.{read_op, write_op, alone, code}
use Rattle.sp_sugar.specs.Runs.{Run, next_code}
use Rattle.sp_sugar.specs.Stages.{run_stage, Combines, nothing, folds, reduces, reduces_elements, combination_stage, last_stages, inner_node}
use Rattle.sp_sugar.specs.Uses.{Ending, no_more, in_last_run, in_combination}
use Rattle.sp_sugar.specs.Values.{Sources}
use Rattle.sp_tree.specs.PlainExpression.{type_of}

pub slice_streamed : (b : Bool) (r m : ℕ) (spans : List core.PlainSpan) (wide : SparseKind) (lanes : ℕ) (x : PlainNode) → streamed x ≡ [] → streamed (if b then x else sparse wide r m None spans [] lanes) ≡ []
slice_streamed true r m spans wide lanes x e = e
slice_streamed false r m spans wide lanes x e = refl

pub run_streamed : (ops : List PlainOp) (rest : PlainStages) → streamed_in (run_stage ops rest) ≡ streamed_in rest
run_streamed [] rest = refl
run_streamed (op ∷ ops) rest = refl

module _ (mems : List PlainMem) (count : ℕ) where
  chosen_streamed : (b : Bool) (ops : List PlainOp) (xs ys : PlainStages) (all : List ℕ) → streamed_in xs ≡ all → streamed_in ys ≡ all → streamed_in (if b then stage_of ops xs else ys) ≡ all
  chosen_streamed true ops xs ys all e f = e
  chosen_streamed false ops xs ys all e f = f

  bounds_streamed : (sources : Sources) (r : ℕ) (es : List PlainExpr) (rest : PlainStages) → streamed_in (bound_stages mems sources r es rest) ≡ streamed_in rest
  bounds_streamed sources r [] rest = refl
  bounds_streamed sources r (e ∷ es) rest = chosen_streamed (is_early e) (into_register mems sources 0 r e) (bound_stages mems sources (suc r) es rest) (bound_stages mems sources r es rest) (streamed_in rest) (bounds_streamed sources (suc r) es rest) (bounds_streamed sources r es rest)

  pub early_streamed : (sources : Sources) (r : ℕ) (k : PlainStmtKind) (rest : PlainStages) → streamed_in (early_stages mems sources r k rest) ≡ streamed_in rest
  early_streamed sources r (load_sram sram dram spans) rest = chosen_streamed (is_early_slice spans) (slice_ops mems sources (is_early_part spans) 0 r (parts_of spans)) rest rest (streamed_in rest) refl refl
  early_streamed sources r (load_line line dram spans) rest = chosen_streamed (is_early_slice spans) (slice_ops mems sources (is_early_part spans) 0 r (parts_of spans)) rest rest (streamed_in rest) refl refl
  early_streamed sources r (store dram spans sram) rest = chosen_streamed (is_early_slice spans) (slice_ops mems sources (is_early_part spans) 0 r (parts_of spans)) rest rest (streamed_in rest) refl refl
  early_streamed sources r (gather sram dram places n) rest = bounds_streamed sources r (n ∷ []) rest
  early_streamed sources r (scatter dram places n sram) rest = bounds_streamed sources r (n ∷ []) rest
  early_streamed sources r (foreach style loops body) rest = bounds_streamed sources r (bounds_of loops) rest
  early_streamed sources r (reduce style fold acc loops body e comb) rest = bounds_streamed sources r (bounds_of loops) rest
  early_streamed sources r (mem_reduce style acc loops body part comb) rest = bounds_streamed sources r (bounds_of loops) rest
  early_streamed sources r (declare m) rest = refl
  early_streamed sources r (name v e) rest = refl
  early_streamed sources r (set_reg m e) rest = refl
  early_streamed sources r (set_out m e) rest = refl
  early_streamed sources r (set_sram m xs e) rest = refl
  early_streamed sources r (enq m e) rest = refl
  early_streamed sources r (block style body) rest = refl
  early_streamed sources r (fsm start tested test state body last next) rest = refl
  early_streamed sources r (branch test first second) rest = refl

  pub last_streamed : (run : Run) (n : ℕ) (ending : Ending) (c : Combines) → streamed_in (last_stages mems count run n ending c) ≡ []
  last_streamed run n ending (reduces_elements part acc begun comb) = run_streamed run.ops (more_stage 0 0 true (element_loop mems count (expressions.dims mems part) part acc begun (expressions.mem mems part).ty comb) no_stage)
  last_streamed run n no_more nothing = run_streamed run.ops no_stage
  last_streamed run n no_more (folds acc comb e) = run_streamed run.ops no_stage
  last_streamed run n no_more (reduces acc begun comb e) = run_streamed run.ops no_stage
  last_streamed run n (in_combination x) nothing = run_streamed run.ops (combination_stage mems count (code mems run.values.elsewhere 0 x) nothing)
  last_streamed run n (in_combination x) (folds acc comb e) = run_streamed run.ops (combination_stage mems count (code mems run.values.elsewhere 0 x) (folds acc comb e))
  last_streamed run n (in_combination x) (reduces acc begun comb e) = run_streamed run.ops (combination_stage mems count (code mems run.values.elsewhere 0 x) (reduces acc begun comb e))
  last_streamed run n (in_last_run x) nothing = run_streamed (run.ops ++ (next_code mems run x).ops ++ write_op (type_of x) n ((next_code mems run x).word ∷ []) ∷ []) (combination_stage mems count (alone 0 (read_op (type_of x) n [])) nothing)
  last_streamed run n (in_last_run x) (folds acc comb e) = run_streamed (run.ops ++ (next_code mems run x).ops ++ write_op (type_of x) n ((next_code mems run x).word ∷ []) ∷ []) (combination_stage mems count (alone 0 (read_op (type_of x) n [])) (folds acc comb e))
  last_streamed run n (in_last_run x) (reduces acc begun comb e) = run_streamed (run.ops ++ (next_code mems run x).ops ++ write_op (type_of x) n ((next_code mems run x).word ∷ []) ∷ []) (combination_stage mems count (alone 0 (read_op (type_of x) n [])) (reduces acc begun comb e))

  pub inner_streamed : (sources : Sources) (loops : List PlainCounter) (body : PlainStmts) (c : Combines) → streamed (inner_node mems count sources loops body c) ≡ []
  inner_streamed sources loops body nothing = refl
  inner_streamed sources loops body (folds acc comb e) = refl
  inner_streamed sources loops body (reduces acc begun comb e) = refl
  inner_streamed sources loops body (reduces_elements part acc begun comb) = refl
