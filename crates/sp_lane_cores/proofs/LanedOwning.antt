-- No combination of the core of a program owns a memory.
use Rattle.std.proofs.Common.{◌≡◌, ℕ, suc, ◌+◌, ◌==◌, Bool, true, false, cond, List, [], ◌∷◌, length, None, refl}
use Rattle.sp_words.specs.declared.kind.Style.{Style}
use Rattle.sp_words.specs.declared.kind.Style.TheVariants.{Pipe}
use Rattle.sp_tree.specs.PlainExpression.{PlainExpr}
use Rattle.sp_tree.specs.PlainProgram.{PlainMem}
use Rattle.sp_tree.specs.PlainStatement.{PlainSpan, PlainStmtKind, PlainStmts, stmt, declare, name, set_reg, set_out, set_sram, enq, load_sram, load_line, store, gather, scatter, block, foreach, reduce, mem_reduce, fsm, branch, no_stmt, more_stmt}
use Rattle.sp_tree.specs.Structure.{is_inner, slice_lanes}
use Rattle.sp_core.specs.Invariant.{owned_in}
use Rattle.sp_core.specs.PlainCore as core
use Rattle.sp_core.specs.PlainCore.{PlainOp, PlainCounter, PlainNode, PlainStages, no_stage, more_stage}
use Rattle.sp_sugar.specs.Early.{registers_for, counters_of, is_early, is_early_slice, is_early_part, parts_of, into_register, slice_ops, bounds_of, bound_stages, slice_stage, early_stages}
use Rattle.sp_sugar.specs.Numbers.{mem_number}
use Rattle.sp_sugar.specs.Registers.{ending_of, beside, inside, registers_in}
use Rattle.sp_sugar.specs.Runs.{Run, no_run, with_stmt}
use Rattle.sp_sugar.specs.Stages.{run_stage, first_of, Combines, nothing, folds, reduces, reduces_elements, combines, inner_node, last_stages, style_of, outer_node, body_node, stages, node}
use Rattle.sp_sugar.specs.Uses.{Ending, no_more, in_last_run, in_combination}
use Rattle.sp_sugar.specs.Values.{Sources, with_state}
use Rattle.sp_lane_rules.specs.Copies.{OwnsInLanes, OwnInLanes}

run_own : (ops : List PlainOp) (rest : PlainStages) → OwnInLanes rest → OwnInLanes (run_stage ops rest)
run_own [] rest h = h
run_own (op ∷ ops) rest h = (tt, h)

combined_own : (ops : List PlainOp) (x : PlainNode) → owned_in x ≡ [] → OwnsInLanes x → OwnInLanes (run_stage ops (more_stage 0 0 true x no_stage))
combined_own ops x e h = run_own ops (more_stage 0 0 true x no_stage) (e, h, tt)

module _ (mems : List PlainMem) (counters : ℕ) where
  if_own : (b : Bool) (ops : List PlainOp) (x y : PlainStages) → OwnInLanes x → OwnInLanes y → OwnInLanes (cond b (more_stage 0 0 false (core.inner [] [] ops None) x) y)
  if_own true ops x y h k = (tt, h)
  if_own false ops x y h k = k

  bounds_own : (sources : Sources) (r : ℕ) (es : List PlainExpr) (rest : PlainStages) → OwnInLanes rest → OwnInLanes (bound_stages mems sources r es rest)
  bounds_own sources r [] rest h = h
  bounds_own sources r (e ∷ es) rest h =
      if_own (is_early e) (into_register mems sources 0 r e) (bound_stages mems sources (suc r) es rest) (bound_stages mems sources r es rest) (bounds_own sources (suc r) es rest h) (bounds_own sources r es rest h)

  slice_own : (sources : Sources) (r : ℕ) (spans : List PlainSpan) (rest : PlainStages) → OwnInLanes rest → OwnInLanes (slice_stage mems sources r spans rest)
  slice_own sources r spans rest h = if_own (is_early_slice spans) (slice_ops mems sources (is_early_part spans) 0 r (parts_of spans)) rest rest h h

  early_own : (sources : Sources) (r : ℕ) (kind : PlainStmtKind) (rest : PlainStages) → OwnInLanes rest → OwnInLanes (early_stages mems sources r kind rest)
  early_own sources r (load_sram sram dram spans) rest h = slice_own sources r spans rest h
  early_own sources r (load_line line dram spans) rest h = slice_own sources r spans rest h
  early_own sources r (store dram spans sram) rest h = slice_own sources r spans rest h
  early_own sources r (gather sram dram places e) rest h = bounds_own sources r (e ∷ []) rest h
  early_own sources r (scatter dram places e sram) rest h = bounds_own sources r (e ∷ []) rest h
  early_own sources r (block style body) rest h = h
  early_own sources r (foreach style loops body) rest h = bounds_own sources r (bounds_of loops) rest h
  early_own sources r (reduce style fold acc loops body e comb) rest h = bounds_own sources r (bounds_of loops) rest h
  early_own sources r (mem_reduce style acc loops body part comb) rest h = bounds_own sources r (bounds_of loops) rest h
  early_own sources r (fsm start tested test state body last next) rest h = h
  early_own sources r (branch test first second) rest h = h
  early_own sources r (declare m) rest h = h
  early_own sources r (name v x) rest h = h
  early_own sources r (set_reg m x) rest h = h
  early_own sources r (set_out m x) rest h = h
  early_own sources r (set_sram m xs x) rest h = h
  early_own sources r (enq m x) rest h = h

  last_own : (run : Run) (n : ℕ) (ending : Ending) (c : Combines) → OwnInLanes (last_stages mems counters run n ending c)
  last_own run n no_more nothing = run_own run.ops no_stage tt
  last_own run n no_more (folds acc comb e) = run_own run.ops no_stage tt
  last_own run n no_more (reduces acc begun comb e) = run_own run.ops no_stage tt
  last_own run n no_more (reduces_elements part acc begun comb) = combined_own run.ops _ refl tt
  last_own run n (in_combination x) nothing = combined_own run.ops _ refl tt
  last_own run n (in_combination x) (folds acc comb e) = combined_own run.ops _ refl tt
  last_own run n (in_combination x) (reduces acc begun comb e) = combined_own run.ops _ refl tt
  last_own run n (in_combination x) (reduces_elements part acc begun comb) = combined_own run.ops _ refl tt
  last_own run n (in_last_run x) nothing = combined_own _ _ refl tt
  last_own run n (in_last_run x) (folds acc comb e) = combined_own _ _ refl tt
  last_own run n (in_last_run x) (reduces acc begun comb e) = combined_own _ _ refl tt
  last_own run n (in_last_run x) (reduces_elements part acc begun comb) = combined_own run.ops _ refl tt

  inner_own : (sources : Sources) (loops : List PlainCounter) (body : PlainStmts) (c : Combines) → OwnsInLanes (inner_node mems counters sources loops body c)
  inner_own sources loops body nothing = tt
  inner_own sources loops body (folds acc comb e) = tt
  inner_own sources loops body (reduces acc begun comb e) = tt
  inner_own sources loops body (reduces_elements part acc begun comb) = tt

  pub body_own : (sources : Sources) (n : ℕ) (loops : List PlainCounter) (style : Style) (body : PlainStmts) (ending : Ending) (c : Combines) (all : PlainStages) → OwnInLanes all
      → OwnsInLanes (body_node mems counters sources n loops style body ending c all)
  body_own sources n loops style body ending c all h = by (is_inner body)
    where
      by : (b : Bool) → OwnsInLanes (cond b (inner_node mems counters sources loops body c) (outer_node mems counters n loops style body ending all))
      by true = inner_own sources loops body c
      by false = h

  either_own : (b : Bool) (x y : PlainNode) → OwnsInLanes x → OwnsInLanes y → OwnsInLanes (cond b x y)
  either_own true x y h k = h
  either_own false x y h k = k

  -- a stage and those after it
  later_own : (run : Run) (n : ℕ) (kind : PlainStmtKind) (x : PlainNode) (others : PlainStages) → OwnsInLanes x → OwnInLanes others
      → OwnInLanes (run_stage run.ops (early_stages mems run.values.elsewhere n kind (more_stage 0 0 false x others)))
  later_own run n kind x others h k = run_own run.ops (early_stages mems run.values.elsewhere n kind (more_stage 0 0 false x others)) (early_own run.values.elsewhere n kind (more_stage 0 0 false x others) (h, k))

  mutual
    unfolding stages node

    pub stages_own : (run : Run) (n : ℕ) (body : PlainStmts) (ending : Ending) (c : Combines) → OwnInLanes (stages mems counters run n body ending c)
    stages_own run n no_stmt ending c = last_own run n ending c
    stages_own run n (more_stmt (stmt place (declare m)) rest) ending c = stages_own (with_stmt mems false (first_of n (beside (declare m) rest ending)) run (declare m)) (n + length (beside (declare m) rest ending)) rest ending c
    stages_own run n (more_stmt (stmt place (name v x)) rest) ending c = stages_own (with_stmt mems false (first_of n (beside (name v x) rest ending)) run (name v x)) (n + length (beside (name v x) rest ending)) rest ending c
    stages_own run n (more_stmt (stmt place (set_reg m x)) rest) ending c = stages_own (with_stmt mems false (first_of n (beside (set_reg m x) rest ending)) run (set_reg m x)) (n + length (beside (set_reg m x) rest ending)) rest ending c
    stages_own run n (more_stmt (stmt place (set_out m x)) rest) ending c = stages_own (with_stmt mems false (first_of n (beside (set_out m x) rest ending)) run (set_out m x)) (n + length (beside (set_out m x) rest ending)) rest ending c
    stages_own run n (more_stmt (stmt place (set_sram m xs x)) rest) ending c = stages_own (with_stmt mems false (first_of n (beside (set_sram m xs x) rest ending)) run (set_sram m xs x)) (n + length (beside (set_sram m xs x) rest ending)) rest ending c
    stages_own run n (more_stmt (stmt place (enq m x)) rest) ending c = stages_own (with_stmt mems false (first_of n (beside (enq m x) rest ending)) run (enq m x)) (n + length (beside (enq m x) rest ending)) rest ending c
    stages_own run n (more_stmt (stmt place (load_sram sram dram spans)) rest) ending c =
        later_own run n (load_sram sram dram spans) (node mems counters run.values.elsewhere n (n + length (beside (load_sram sram dram spans) rest ending)) (load_sram sram dram spans)) (stages mems counters (no_run run.values.elsewhere) (n + length (beside (load_sram sram dram spans) rest ending) + length (inside (load_sram sram dram spans))) rest ending c) (node_own (load_sram sram dram spans) run.values.elsewhere n (n + length (beside (load_sram sram dram spans) rest ending)))
        (stages_own (no_run run.values.elsewhere) (n + length (beside (load_sram sram dram spans) rest ending) + length (inside (load_sram sram dram spans))) rest ending c)
    stages_own run n (more_stmt (stmt place (load_line line dram spans)) rest) ending c =
        later_own run n (load_line line dram spans) (node mems counters run.values.elsewhere n (n + length (beside (load_line line dram spans) rest ending)) (load_line line dram spans)) (stages mems counters (no_run run.values.elsewhere) (n + length (beside (load_line line dram spans) rest ending) + length (inside (load_line line dram spans))) rest ending c) (node_own (load_line line dram spans) run.values.elsewhere n (n + length (beside (load_line line dram spans) rest ending)))
        (stages_own (no_run run.values.elsewhere) (n + length (beside (load_line line dram spans) rest ending) + length (inside (load_line line dram spans))) rest ending c)
    stages_own run n (more_stmt (stmt place (store dram spans sram)) rest) ending c =
        later_own run n (store dram spans sram) (node mems counters run.values.elsewhere n (n + length (beside (store dram spans sram) rest ending)) (store dram spans sram)) (stages mems counters (no_run run.values.elsewhere) (n + length (beside (store dram spans sram) rest ending) + length (inside (store dram spans sram))) rest ending c) (node_own (store dram spans sram) run.values.elsewhere n (n + length (beside (store dram spans sram) rest ending)))
        (stages_own (no_run run.values.elsewhere) (n + length (beside (store dram spans sram) rest ending) + length (inside (store dram spans sram))) rest ending c)
    stages_own run n (more_stmt (stmt place (gather sram dram places e)) rest) ending c =
        later_own run n (gather sram dram places e) (node mems counters run.values.elsewhere n (n + length (beside (gather sram dram places e) rest ending)) (gather sram dram places e)) (stages mems counters (no_run run.values.elsewhere) (n + length (beside (gather sram dram places e) rest ending) + length (inside (gather sram dram places e))) rest ending c) (node_own (gather sram dram places e) run.values.elsewhere n (n + length (beside (gather sram dram places e) rest ending)))
        (stages_own (no_run run.values.elsewhere) (n + length (beside (gather sram dram places e) rest ending) + length (inside (gather sram dram places e))) rest ending c)
    stages_own run n (more_stmt (stmt place (scatter dram places e sram)) rest) ending c =
        later_own run n (scatter dram places e sram) (node mems counters run.values.elsewhere n (n + length (beside (scatter dram places e sram) rest ending)) (scatter dram places e sram)) (stages mems counters (no_run run.values.elsewhere) (n + length (beside (scatter dram places e sram) rest ending) + length (inside (scatter dram places e sram))) rest ending c) (node_own (scatter dram places e sram) run.values.elsewhere n (n + length (beside (scatter dram places e sram) rest ending)))
        (stages_own (no_run run.values.elsewhere) (n + length (beside (scatter dram places e sram) rest ending) + length (inside (scatter dram places e sram))) rest ending c)
    stages_own run n (more_stmt (stmt place (block style body)) rest) ending c =
        later_own run n (block style body) (node mems counters run.values.elsewhere n (n + length (beside (block style body) rest ending)) (block style body)) (stages mems counters (no_run run.values.elsewhere) (n + length (beside (block style body) rest ending) + length (inside (block style body))) rest ending c) (node_own (block style body) run.values.elsewhere n (n + length (beside (block style body) rest ending)))
        (stages_own (no_run run.values.elsewhere) (n + length (beside (block style body) rest ending) + length (inside (block style body))) rest ending c)
    stages_own run n (more_stmt (stmt place (foreach style loops body)) rest) ending c =
        later_own run n (foreach style loops body) (node mems counters run.values.elsewhere n (n + length (beside (foreach style loops body) rest ending)) (foreach style loops body)) (stages mems counters (no_run run.values.elsewhere) (n + length (beside (foreach style loops body) rest ending) + length (inside (foreach style loops body))) rest ending c) (node_own (foreach style loops body) run.values.elsewhere n (n + length (beside (foreach style loops body) rest ending)))
        (stages_own (no_run run.values.elsewhere) (n + length (beside (foreach style loops body) rest ending) + length (inside (foreach style loops body))) rest ending c)
    stages_own run n (more_stmt (stmt place (reduce style fold acc loops body e comb)) rest) ending c =
        later_own run n (reduce style fold acc loops body e comb) (node mems counters run.values.elsewhere n (n + length (beside (reduce style fold acc loops body e comb) rest ending)) (reduce style fold acc loops body e comb)) (stages mems counters (no_run run.values.elsewhere) (n + length (beside (reduce style fold acc loops body e comb) rest ending) + length (inside (reduce style fold acc loops body e comb))) rest ending c) (node_own (reduce style fold acc loops body e comb) run.values.elsewhere n (n + length (beside (reduce style fold acc loops body e comb) rest ending)))
        (stages_own (no_run run.values.elsewhere) (n + length (beside (reduce style fold acc loops body e comb) rest ending) + length (inside (reduce style fold acc loops body e comb))) rest ending c)
    stages_own run n (more_stmt (stmt place (mem_reduce style acc loops body part comb)) rest) ending c =
        later_own run n (mem_reduce style acc loops body part comb) (node mems counters run.values.elsewhere n (n + length (beside (mem_reduce style acc loops body part comb) rest ending)) (mem_reduce style acc loops body part comb)) (stages mems counters (no_run run.values.elsewhere) (n + length (beside (mem_reduce style acc loops body part comb) rest ending) + length (inside (mem_reduce style acc loops body part comb))) rest ending c) (node_own (mem_reduce style acc loops body part comb) run.values.elsewhere n (n + length (beside (mem_reduce style acc loops body part comb) rest ending)))
        (stages_own (no_run run.values.elsewhere) (n + length (beside (mem_reduce style acc loops body part comb) rest ending) + length (inside (mem_reduce style acc loops body part comb))) rest ending c)
    stages_own run n (more_stmt (stmt place (fsm start tested test state body last next)) rest) ending c =
        later_own run n (fsm start tested test state body last next) (node mems counters run.values.elsewhere n (n + length (beside (fsm start tested test state body last next) rest ending)) (fsm start tested test state body last next)) (stages mems counters (no_run run.values.elsewhere) (n + length (beside (fsm start tested test state body last next) rest ending) + length (inside (fsm start tested test state body last next))) rest ending c) (node_own (fsm start tested test state body last next) run.values.elsewhere n (n + length (beside (fsm start tested test state body last next) rest ending)))
        (stages_own (no_run run.values.elsewhere) (n + length (beside (fsm start tested test state body last next) rest ending) + length (inside (fsm start tested test state body last next))) rest ending c)
    stages_own run n (more_stmt (stmt place (branch test first second)) rest) ending c =
        later_own run n (branch test first second) (node mems counters run.values.elsewhere n (n + length (beside (branch test first second) rest ending)) (branch test first second)) (stages mems counters (no_run run.values.elsewhere) (n + length (beside (branch test first second) rest ending) + length (inside (branch test first second))) rest ending c) (node_own (branch test first second) run.values.elsewhere n (n + length (beside (branch test first second) rest ending)))
        (stages_own (no_run run.values.elsewhere) (n + length (beside (branch test first second) rest ending) + length (inside (branch test first second))) rest ending c)

    node_own : (kind : PlainStmtKind) (sources : Sources) (b n : ℕ) → OwnsInLanes (node mems counters sources b n kind)
    node_own (load_sram sram dram spans) sources b n = either_own (slice_lanes spans == 1) _ _ tt tt
    node_own (load_line line dram spans) sources b n = either_own (slice_lanes spans == 1) _ _ tt tt
    node_own (store dram spans sram) sources b n = either_own (slice_lanes spans == 1) _ _ tt tt
    node_own (gather sram dram places e) sources b n = tt
    node_own (scatter dram places e sram) sources b n = tt
    node_own (block style body) sources b n =
        body_own sources n [] (style_of mems counters style body) body no_more nothing _ (stages_own (no_run sources) n body no_more nothing)
    node_own (foreach style loops body) sources b n =
        body_own sources n (counters_of mems sources b loops) style body no_more nothing _ (stages_own (no_run sources) n body no_more nothing)
    node_own (reduce style fold acc loops body e comb) sources b n =
        let c : Combines = combines mems fold acc (b + length (registers_for is_early (bounds_of loops))) comb e in
        body_own sources n (counters_of mems sources b loops) style body (ending_of loops e) c _ (stages_own (no_run sources) n body (ending_of loops e) c)
    node_own (mem_reduce style acc loops body part comb) sources b n =
        stages_own (no_run sources) n body no_more (reduces_elements part (mem_number mems acc) (b + length (registers_for is_early (bounds_of loops))) comb)
    node_own (fsm start tested test state body last next) sources b n =
        body_own (with_state sources tested state last n) (suc n) [] Pipe body no_more nothing _ (stages_own (no_run (with_state sources tested state last n)) (suc n) body no_more nothing)
    node_own (branch test first second) sources b n = (
      body_own sources n [] Pipe first no_more nothing _ (stages_own (no_run sources) n first no_more nothing),
      body_own sources (n + length (registers_in first no_more)) [] Pipe second no_more nothing _ (stages_own (no_run sources) (n + length (registers_in first no_more)) second no_more nothing),
    )
    node_own (declare m) sources b n = tt
    node_own (name v x) sources b n = tt
    node_own (set_reg m x) sources b n = tt
    node_own (set_out m x) sources b n = tt
    node_own (set_sram m xs x) sources b n = tt
    node_own (enq m x) sources b n = tt
