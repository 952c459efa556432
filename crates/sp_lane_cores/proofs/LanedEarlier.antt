-- What holds of stages still does where early stages and runs come before them.
use Rattle.std.proofs.Common.{ℕ, suc, Bool, true, false, List, [], ◌∷◌, if◌then◌else◌}
use Rattle.sp_tree.specs.PlainExpression.{PlainExpr}
use Rattle.sp_tree.specs.PlainProgram.{PlainMem}
use Rattle.sp_tree.specs.PlainStatement.{PlainSpan, PlainStmtKind, load_sram, load_line, store, gather, scatter, foreach, reduce, mem_reduce}
use Rattle.sp_core.specs.PlainCore.{PlainOp, PlainStages}
use Rattle.sp_sugar.specs.Early.{bounds_of, parts_of, is_early, is_early_slice, is_early_part, into_register, bound_stages, slice_ops, slice_stage, stage_of, early_stages}
use Rattle.sp_sugar.specs.Stages.{run_stage}
use Rattle.sp_sugar.specs.Values.{Sources}

module _ (Good : PlainStages → Type 0) (good : (ops : List PlainOp) (rest : PlainStages) → Good rest → Good (stage_of ops rest)) where
  pub run_good : (ops : List PlainOp) (rest : PlainStages) → Good rest → Good (run_stage ops rest)
  run_good [] rest h = h
  run_good (op ∷ ops) rest h = good (op ∷ ops) rest h

  if_good : (b : Bool) (xs ys : PlainStages) → Good xs → Good ys → Good (if b then xs else ys)
  if_good true xs ys h k = h
  if_good false xs ys h k = k

  module _ (mems : List PlainMem) (sources : Sources) where
    bounds_good : (r : ℕ) (es : List PlainExpr) (rest : PlainStages) → Good rest → Good (bound_stages mems sources r es rest)
    bounds_good r [] rest h = h
    bounds_good r (e ∷ es) rest h =
        if_good (is_early e) (stage_of (into_register mems sources 0 r e) (bound_stages mems sources (suc r) es rest)) (bound_stages mems sources r es rest)
        (good (into_register mems sources 0 r e) (bound_stages mems sources (suc r) es rest) (bounds_good (suc r) es rest h)) (bounds_good r es rest h)

    slice_good : (r : ℕ) (spans : List PlainSpan) (rest : PlainStages) → Good rest → Good (slice_stage mems sources r spans rest)
    slice_good r spans rest h =
        if_good (is_early_slice spans) (stage_of (slice_ops mems sources (is_early_part spans) 0 r (parts_of spans)) rest) rest (good (slice_ops mems sources (is_early_part spans) 0 r (parts_of spans)) rest h) h

    pub early_good : (r : ℕ) (k : PlainStmtKind) (rest : PlainStages) → Good rest → Good (early_stages mems sources r k rest)
    early_good r (load_sram sram dram spans) rest h = slice_good r spans rest h
    early_good r (load_line line dram spans) rest h = slice_good r spans rest h
    early_good r (store dram spans sram) rest h = slice_good r spans rest h
    early_good r (gather sram dram places e) rest h = bounds_good r (e ∷ []) rest h
    early_good r (scatter dram places e sram) rest h = bounds_good r (e ∷ []) rest h
    early_good r (foreach style loops body) rest h = bounds_good r (bounds_of loops) rest h
    early_good r (reduce style fold acc loops body e comb) rest h = bounds_good r (bounds_of loops) rest h
    early_good r (mem_reduce style acc loops body part comb) rest h = bounds_good r (bounds_of loops) rest h
    early_good r _ rest h = h
