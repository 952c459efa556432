-- No part of the core of a program stands in more lanes than the program's limit says.
use Rattle.std.proofs.Common.{◌≡◌, ℕ, suc, ◌+◌, ◌*◌, ◌≤◌, ◌==◌, Bool, true, false, cond, List, [], ◌∷◌, length, None, Some, refl, sym, ◌∙◌, subst, arith}
use Rattle.std.proofs.Math.Nat.{le-max_left, le-max_right}
use Rattle.std.specs.Prelude.{max}
use Rattle.sp_words.specs.declared.kind.Style.{Style}
use Rattle.sp_words.specs.declared.kind.Style.TheVariants.{Pipe}
use Rattle.sp_tree.specs.Counts.{lanes_in, kind_lanes}
use Rattle.sp_tree.specs.Expressions.{dims}
use Rattle.sp_tree.specs.Invariant.{IsProgram, outer_scope}
use Rattle.sp_tree.specs.PlainExpression.{PlainExpr, type_of}
use Rattle.sp_tree.specs.PlainProgram.{PlainProgram}
use Rattle.sp_tree.specs.PlainStatement as tree
use Rattle.sp_tree.specs.PlainStatement.{PlainSpan, PlainStmtKind, PlainStmts, stmt, declare, name, set_reg, set_out, set_sram, enq, load_sram, load_line, store, gather, scatter, block, foreach, reduce, mem_reduce, fsm, branch, no_stmt, more_stmt}
use Rattle.sp_tree.specs.Structure as structure
use Rattle.sp_tree.specs.Structure.{is_inner, slice_lanes}
use Rattle.sp_tree.specs.Typing.{Scope, BodyTyped, StmtTyped, LanesAtEnd, after, with_counters, with_val}
use Rattle.sp_core.specs.Around.{lanes_of}
use Rattle.sp_core.specs.PlainCore as core
use Rattle.sp_core.specs.PlainCore.{PlainOp, PlainCounter, PlainNode, PlainStages, no_stage, more_stage}
use Rattle.sp_sugar.specs.Combination.{element_counters}
use Rattle.sp_sugar.specs.Core.{core_of}
use Rattle.sp_sugar.specs.Early.{registers_for, counters_of, is_early, is_early_slice, is_early_part, parts_of, into_register, slice_ops, bounds_of, bound_stages, slice_stage, early_stages, after as after_word}
use Rattle.sp_sugar.specs.Numbers.{mem_number, written_mems}
use Rattle.sp_sugar.specs.Registers.{ending_of, beside, inside, registers_in}
use Rattle.sp_sugar.specs.Runs.{Run, no_run, with_stmt}
use Rattle.sp_sugar.specs.Stages.{run_stage, first_of, Combines, nothing, folds, reduces, reduces_elements, combines, inner_node, last_stages, style_of, outer_node, body_node, stages, node}
use Rattle.sp_sugar.specs.Uses.{Ending, no_more, in_last_run, in_combination}
use Rattle.sp_sugar.specs.Values.{Sources, no_sources, with_state}
use Rattle.sp_lane_cores.proofs.LanedHeavy.{IsWithin, AreWithin}

left_most : (a b : ℕ) → max a b ≤ 16 → a ≤ 16
left_most a b h = omega (arith, h, le-max_left a b)

right_most : (a b : ℕ) → max a b ≤ 16 → b ≤ 16
right_most a b h = omega (arith, h, le-max_right a b)

-- a body stands in no more lanes than what is in it
around_most : (body : PlainStmts) (w : ℕ) → lanes_in body w ≤ 16 → w ≤ 16
around_most no_stmt w h = h
around_most (more_stmt (stmt place kind) rest) w h = around_most rest w (right_most (kind_lanes kind w) (lanes_in rest w) h)

element_lanes : (c : ℕ) (dims : List ℕ) → lanes_of (element_counters c dims) ≡ 1
element_lanes c [] = refl
element_lanes c (d ∷ []) = refl
element_lanes c (d ∷ next ∷ dims) = element_lanes (suc c) (next ∷ dims)

module _ (w : ℕ) (h : w ≤ 16) where
  by_one : (l : ℕ) → l ≡ 1 → w * l ≤ 16
  by_one l e = subst (λ x. w * x ≤ 16) (sym e) (omega (arith, h))

  run_within : (ops : List PlainOp) (rest : PlainStages) → AreWithin w rest → AreWithin w (run_stage ops rest)
  run_within [] rest k = k
  run_within (op ∷ ops) rest k = (by_one 1 refl, k)

  one_within : (ops : List PlainOp) (owned : List ℕ) (of : List PlainOp) (at : ℕ) (loops : List PlainCounter) → lanes_of loops ≡ 1 → AreWithin w (run_stage ops (more_stage 0 0 true (core.inner loops owned of (Some at)) no_stage))
  one_within ops owned of at loops e = run_within ops (more_stage 0 0 true (core.inner loops owned of (Some at)) no_stage) (by_one (lanes_of loops) e, tt)

  if_within : (b : Bool) (ops : List PlainOp) (x y : PlainStages) → AreWithin w x → AreWithin w y → AreWithin w (cond b (more_stage 0 0 false (core.inner [] [] ops None) x) y)
  if_within true ops x y k l = (by_one 1 refl, k)
  if_within false ops x y k l = l

either_within : (w : ℕ) (b : Bool) (x y : PlainNode) → IsWithin w x → IsWithin w y → IsWithin w (cond b x y)
either_within w true x y h k = h
either_within w false x y h k = k

module _ (p : PlainProgram) (counters : ℕ) where
  loop_lanes : (sources : Sources) (r : ℕ) (loops : List tree.PlainCounter) → LanesAtEnd p loops → lanes_of (counters_of p.mems sources r loops) ≡ structure.lanes_of loops
  loop_lanes sources r [] h = absurd h
  loop_lanes sources r (c ∷ []) h = omega arith
  loop_lanes sources r (c ∷ next ∷ rest) h =
      loop_lanes sources (after_word is_early (after_word is_early r c.from) c.until) (next ∷ rest) h.1
      ∙ subst (λ x. structure.lanes_of (next ∷ rest) ≡ x * structure.lanes_of (next ∷ rest)) (sym h.0) (omega arith)

  module _ (w : ℕ) (most : w ≤ 16) where
    bounds_within : (sources : Sources) (r : ℕ) (es : List PlainExpr) (rest : PlainStages) → AreWithin w rest → AreWithin w (bound_stages p.mems sources r es rest)
    bounds_within sources r [] rest h = h
    bounds_within sources r (e ∷ es) rest h =
        if_within w most (is_early e) (into_register p.mems sources 0 r e) (bound_stages p.mems sources (suc r) es rest) (bound_stages p.mems sources r es rest) (bounds_within sources (suc r) es rest h) (bounds_within sources r es rest h)

    slice_within : (sources : Sources) (r : ℕ) (spans : List PlainSpan) (rest : PlainStages) → AreWithin w rest → AreWithin w (slice_stage p.mems sources r spans rest)
    slice_within sources r spans rest h = if_within w most (is_early_slice spans) (slice_ops p.mems sources (is_early_part spans) 0 r (parts_of spans)) rest rest h h

    early_within : (sources : Sources) (r : ℕ) (kind : PlainStmtKind) (rest : PlainStages) → AreWithin w rest → AreWithin w (early_stages p.mems sources r kind rest)
    early_within sources r (load_sram sram dram spans) rest h = slice_within sources r spans rest h
    early_within sources r (load_line line dram spans) rest h = slice_within sources r spans rest h
    early_within sources r (store dram spans sram) rest h = slice_within sources r spans rest h
    early_within sources r (gather sram dram places e) rest h = bounds_within sources r (e ∷ []) rest h
    early_within sources r (scatter dram places e sram) rest h = bounds_within sources r (e ∷ []) rest h
    early_within sources r (block style body) rest h = h
    early_within sources r (foreach style loops body) rest h = bounds_within sources r (bounds_of loops) rest h
    early_within sources r (reduce style fold acc loops body e comb) rest h = bounds_within sources r (bounds_of loops) rest h
    early_within sources r (mem_reduce style acc loops body part comb) rest h = bounds_within sources r (bounds_of loops) rest h
    early_within sources r (fsm start tested test state body last next) rest h = h
    early_within sources r (branch test first second) rest h = h
    early_within sources r (declare m) rest h = h
    early_within sources r (name v x) rest h = h
    early_within sources r (set_reg m x) rest h = h
    early_within sources r (set_out m x) rest h = h
    early_within sources r (set_sram m xs x) rest h = h
    early_within sources r (enq m x) rest h = h

    last_within : (run : Run) (n : ℕ) (ending : Ending) (c : Combines) → AreWithin w (last_stages p.mems counters run n ending c)
    last_within run n no_more nothing = run_within w most run.ops no_stage tt
    last_within run n no_more (folds acc comb e) = run_within w most run.ops no_stage tt
    last_within run n no_more (reduces acc begun comb e) = run_within w most run.ops no_stage tt
    last_within run n no_more (reduces_elements part acc begun comb) = one_within w most run.ops _ _ _ (element_counters counters (dims p.mems part)) (element_lanes counters (dims p.mems part))
    last_within run n (in_combination x) nothing = one_within w most run.ops _ _ _ [] refl
    last_within run n (in_combination x) (folds acc comb e) = one_within w most run.ops _ _ _ [] refl
    last_within run n (in_combination x) (reduces acc begun comb e) = one_within w most run.ops _ _ _ [] refl
    last_within run n (in_combination x) (reduces_elements part acc begun comb) = one_within w most run.ops _ _ _ (element_counters counters (dims p.mems part)) (element_lanes counters (dims p.mems part))
    last_within run n (in_last_run x) nothing = one_within w most _ _ _ _ [] refl
    last_within run n (in_last_run x) (folds acc comb e) = one_within w most _ _ _ _ [] refl
    last_within run n (in_last_run x) (reduces acc begun comb e) = one_within w most _ _ _ _ [] refl
    last_within run n (in_last_run x) (reduces_elements part acc begun comb) = one_within w most run.ops _ _ _ (element_counters counters (dims p.mems part)) (element_lanes counters (dims p.mems part))

    inner_within : (sources : Sources) (loops : List PlainCounter) (body : PlainStmts) (c : Combines) → w * lanes_of loops ≤ 16 → IsWithin w (inner_node p.mems counters sources loops body c)
    inner_within sources loops body nothing h = h
    inner_within sources loops body (folds acc comb e) h = h
    inner_within sources loops body (reduces acc begun comb e) h = h
    inner_within sources loops body (reduces_elements part acc begun comb) h = h

    body_within : (sources : Sources) (n : ℕ) (loops : List PlainCounter) (style : Style) (body : PlainStmts) (ending : Ending) (c : Combines) (all : PlainStages) → w * lanes_of loops ≤ 16 → AreWithin (w * lanes_of loops) all
        → IsWithin w (body_node p.mems counters sources n loops style body ending c all)
    body_within sources n loops style body ending c all h k = by (is_inner body)
      where
        by : (b : Bool) → IsWithin w (cond b (inner_node p.mems counters sources loops body c) (outer_node p.mems counters n loops style body ending all))
        by true = inner_within sources loops body c h
        by false = (h, k)

    -- a body that stands once
    alone_within : (sources : Sources) (n : ℕ) (style : Style) (body : PlainStmts) (ending : Ending) (c : Combines) (all : PlainStages) → AreWithin w all → IsWithin w (body_node p.mems counters sources n [] style body ending c all)
    alone_within sources n style body ending c all h = body_within sources n [] style body ending c all (by_one w most 1 refl) (subst (λ x. AreWithin x all) {x = w} {y = w * 1} (omega arith) h)

    -- a stage and those after it
    later_within : (run : Run) (n : ℕ) (kind : PlainStmtKind) (x : PlainNode) (others : PlainStages) → IsWithin w x → AreWithin w others
        → AreWithin w (run_stage run.ops (early_stages p.mems run.values.elsewhere n kind (more_stage 0 0 false x others)))
    later_within run n kind x others h k = run_within w most run.ops (early_stages p.mems run.values.elsewhere n kind (more_stage 0 0 false x others)) (early_within run.values.elsewhere n kind (more_stage 0 0 false x others) (h, k))

  -- the lanes of a loop, in the program and in its core
  in_loop : (sources : Sources) (r : ℕ) (loops : List tree.PlainCounter) (body : PlainStmts) (w : ℕ) → LanesAtEnd p loops → lanes_in body (w * structure.lanes_of loops) ≤ 16
      → (w * lanes_of (counters_of p.mems sources r loops) ≤ 16) × (lanes_in body (w * lanes_of (counters_of p.mems sources r loops)) ≤ 16)
  in_loop sources r loops body w h k =
      let g = subst (λ x. lanes_in body (w * x) ≤ 16) (sym (loop_lanes sources r loops h)) k in (around_most body (w * lanes_of (counters_of p.mems sources r loops)) g, g)

  mutual
    unfolding stages node

    pub stages_within : (w : ℕ) (scope : Scope) (run : Run) (n : ℕ) (body : PlainStmts) (ending : Ending) (c : Combines) → BodyTyped p scope body → lanes_in body w ≤ 16 → AreWithin w (stages p.mems counters run n body ending c)
    stages_within w scope run n no_stmt ending c typed h = last_within w h run n ending c
    stages_within w scope run n (more_stmt (stmt place (declare m)) rest) ending c typed h = stages_within w (after scope (declare m)) (with_stmt p.mems false (first_of n (beside (declare m) rest ending)) run (declare m)) (n + length (beside (declare m) rest ending)) rest ending c typed.1 (right_most (kind_lanes (declare m) w) (lanes_in rest w) h)
    stages_within w scope run n (more_stmt (stmt place (name v x)) rest) ending c typed h = stages_within w (after scope (name v x)) (with_stmt p.mems false (first_of n (beside (name v x) rest ending)) run (name v x)) (n + length (beside (name v x) rest ending)) rest ending c typed.1 (right_most (kind_lanes (name v x) w) (lanes_in rest w) h)
    stages_within w scope run n (more_stmt (stmt place (set_reg m x)) rest) ending c typed h = stages_within w (after scope (set_reg m x)) (with_stmt p.mems false (first_of n (beside (set_reg m x) rest ending)) run (set_reg m x)) (n + length (beside (set_reg m x) rest ending)) rest ending c typed.1 (right_most (kind_lanes (set_reg m x) w) (lanes_in rest w) h)
    stages_within w scope run n (more_stmt (stmt place (set_out m x)) rest) ending c typed h = stages_within w (after scope (set_out m x)) (with_stmt p.mems false (first_of n (beside (set_out m x) rest ending)) run (set_out m x)) (n + length (beside (set_out m x) rest ending)) rest ending c typed.1 (right_most (kind_lanes (set_out m x) w) (lanes_in rest w) h)
    stages_within w scope run n (more_stmt (stmt place (set_sram m xs x)) rest) ending c typed h = stages_within w (after scope (set_sram m xs x)) (with_stmt p.mems false (first_of n (beside (set_sram m xs x) rest ending)) run (set_sram m xs x)) (n + length (beside (set_sram m xs x) rest ending)) rest ending c typed.1 (right_most (kind_lanes (set_sram m xs x) w) (lanes_in rest w) h)
    stages_within w scope run n (more_stmt (stmt place (enq m x)) rest) ending c typed h = stages_within w (after scope (enq m x)) (with_stmt p.mems false (first_of n (beside (enq m x) rest ending)) run (enq m x)) (n + length (beside (enq m x) rest ending)) rest ending c typed.1 (right_most (kind_lanes (enq m x) w) (lanes_in rest w) h)
    stages_within w scope run n (more_stmt (stmt place (load_sram sram dram spans)) rest) ending c typed h =
        later_within w (around_most rest w (right_most (kind_lanes (load_sram sram dram spans) w) (lanes_in rest w) h)) run n (load_sram sram dram spans) (node p.mems counters run.values.elsewhere n (n + length (beside (load_sram sram dram spans) rest ending)) (load_sram sram dram spans)) (stages p.mems counters (no_run run.values.elsewhere) (n + length (beside (load_sram sram dram spans) rest ending) + length (inside (load_sram sram dram spans))) rest ending c)
        (node_within w scope (load_sram sram dram spans) run.values.elsewhere n (n + length (beside (load_sram sram dram spans) rest ending)) typed.0 (around_most rest w (right_most (kind_lanes (load_sram sram dram spans) w) (lanes_in rest w) h)) (left_most (kind_lanes (load_sram sram dram spans) w) (lanes_in rest w) h))
        (stages_within w (after scope (load_sram sram dram spans)) (no_run run.values.elsewhere) (n + length (beside (load_sram sram dram spans) rest ending) + length (inside (load_sram sram dram spans))) rest ending c typed.1 (right_most (kind_lanes (load_sram sram dram spans) w) (lanes_in rest w) h))
    stages_within w scope run n (more_stmt (stmt place (load_line line dram spans)) rest) ending c typed h =
        later_within w (around_most rest w (right_most (kind_lanes (load_line line dram spans) w) (lanes_in rest w) h)) run n (load_line line dram spans) (node p.mems counters run.values.elsewhere n (n + length (beside (load_line line dram spans) rest ending)) (load_line line dram spans)) (stages p.mems counters (no_run run.values.elsewhere) (n + length (beside (load_line line dram spans) rest ending) + length (inside (load_line line dram spans))) rest ending c)
        (node_within w scope (load_line line dram spans) run.values.elsewhere n (n + length (beside (load_line line dram spans) rest ending)) typed.0 (around_most rest w (right_most (kind_lanes (load_line line dram spans) w) (lanes_in rest w) h)) (left_most (kind_lanes (load_line line dram spans) w) (lanes_in rest w) h))
        (stages_within w (after scope (load_line line dram spans)) (no_run run.values.elsewhere) (n + length (beside (load_line line dram spans) rest ending) + length (inside (load_line line dram spans))) rest ending c typed.1 (right_most (kind_lanes (load_line line dram spans) w) (lanes_in rest w) h))
    stages_within w scope run n (more_stmt (stmt place (store dram spans sram)) rest) ending c typed h =
        later_within w (around_most rest w (right_most (kind_lanes (store dram spans sram) w) (lanes_in rest w) h)) run n (store dram spans sram) (node p.mems counters run.values.elsewhere n (n + length (beside (store dram spans sram) rest ending)) (store dram spans sram)) (stages p.mems counters (no_run run.values.elsewhere) (n + length (beside (store dram spans sram) rest ending) + length (inside (store dram spans sram))) rest ending c)
        (node_within w scope (store dram spans sram) run.values.elsewhere n (n + length (beside (store dram spans sram) rest ending)) typed.0 (around_most rest w (right_most (kind_lanes (store dram spans sram) w) (lanes_in rest w) h)) (left_most (kind_lanes (store dram spans sram) w) (lanes_in rest w) h))
        (stages_within w (after scope (store dram spans sram)) (no_run run.values.elsewhere) (n + length (beside (store dram spans sram) rest ending) + length (inside (store dram spans sram))) rest ending c typed.1 (right_most (kind_lanes (store dram spans sram) w) (lanes_in rest w) h))
    stages_within w scope run n (more_stmt (stmt place (gather sram dram places e)) rest) ending c typed h =
        later_within w (around_most rest w (right_most (kind_lanes (gather sram dram places e) w) (lanes_in rest w) h)) run n (gather sram dram places e) (node p.mems counters run.values.elsewhere n (n + length (beside (gather sram dram places e) rest ending)) (gather sram dram places e)) (stages p.mems counters (no_run run.values.elsewhere) (n + length (beside (gather sram dram places e) rest ending) + length (inside (gather sram dram places e))) rest ending c)
        (node_within w scope (gather sram dram places e) run.values.elsewhere n (n + length (beside (gather sram dram places e) rest ending)) typed.0 (around_most rest w (right_most (kind_lanes (gather sram dram places e) w) (lanes_in rest w) h)) (left_most (kind_lanes (gather sram dram places e) w) (lanes_in rest w) h))
        (stages_within w (after scope (gather sram dram places e)) (no_run run.values.elsewhere) (n + length (beside (gather sram dram places e) rest ending) + length (inside (gather sram dram places e))) rest ending c typed.1 (right_most (kind_lanes (gather sram dram places e) w) (lanes_in rest w) h))
    stages_within w scope run n (more_stmt (stmt place (scatter dram places e sram)) rest) ending c typed h =
        later_within w (around_most rest w (right_most (kind_lanes (scatter dram places e sram) w) (lanes_in rest w) h)) run n (scatter dram places e sram) (node p.mems counters run.values.elsewhere n (n + length (beside (scatter dram places e sram) rest ending)) (scatter dram places e sram)) (stages p.mems counters (no_run run.values.elsewhere) (n + length (beside (scatter dram places e sram) rest ending) + length (inside (scatter dram places e sram))) rest ending c)
        (node_within w scope (scatter dram places e sram) run.values.elsewhere n (n + length (beside (scatter dram places e sram) rest ending)) typed.0 (around_most rest w (right_most (kind_lanes (scatter dram places e sram) w) (lanes_in rest w) h)) (left_most (kind_lanes (scatter dram places e sram) w) (lanes_in rest w) h))
        (stages_within w (after scope (scatter dram places e sram)) (no_run run.values.elsewhere) (n + length (beside (scatter dram places e sram) rest ending) + length (inside (scatter dram places e sram))) rest ending c typed.1 (right_most (kind_lanes (scatter dram places e sram) w) (lanes_in rest w) h))
    stages_within w scope run n (more_stmt (stmt place (block style body)) rest) ending c typed h =
        later_within w (around_most rest w (right_most (kind_lanes (block style body) w) (lanes_in rest w) h)) run n (block style body) (node p.mems counters run.values.elsewhere n (n + length (beside (block style body) rest ending)) (block style body)) (stages p.mems counters (no_run run.values.elsewhere) (n + length (beside (block style body) rest ending) + length (inside (block style body))) rest ending c)
        (node_within w scope (block style body) run.values.elsewhere n (n + length (beside (block style body) rest ending)) typed.0 (around_most rest w (right_most (kind_lanes (block style body) w) (lanes_in rest w) h)) (left_most (kind_lanes (block style body) w) (lanes_in rest w) h))
        (stages_within w (after scope (block style body)) (no_run run.values.elsewhere) (n + length (beside (block style body) rest ending) + length (inside (block style body))) rest ending c typed.1 (right_most (kind_lanes (block style body) w) (lanes_in rest w) h))
    stages_within w scope run n (more_stmt (stmt place (foreach style loops body)) rest) ending c typed h =
        later_within w (around_most rest w (right_most (kind_lanes (foreach style loops body) w) (lanes_in rest w) h)) run n (foreach style loops body) (node p.mems counters run.values.elsewhere n (n + length (beside (foreach style loops body) rest ending)) (foreach style loops body)) (stages p.mems counters (no_run run.values.elsewhere) (n + length (beside (foreach style loops body) rest ending) + length (inside (foreach style loops body))) rest ending c)
        (node_within w scope (foreach style loops body) run.values.elsewhere n (n + length (beside (foreach style loops body) rest ending)) typed.0 (around_most rest w (right_most (kind_lanes (foreach style loops body) w) (lanes_in rest w) h)) (left_most (kind_lanes (foreach style loops body) w) (lanes_in rest w) h))
        (stages_within w (after scope (foreach style loops body)) (no_run run.values.elsewhere) (n + length (beside (foreach style loops body) rest ending) + length (inside (foreach style loops body))) rest ending c typed.1 (right_most (kind_lanes (foreach style loops body) w) (lanes_in rest w) h))
    stages_within w scope run n (more_stmt (stmt place (reduce style fold acc loops body e comb)) rest) ending c typed h =
        later_within w (around_most rest w (right_most (kind_lanes (reduce style fold acc loops body e comb) w) (lanes_in rest w) h)) run n (reduce style fold acc loops body e comb) (node p.mems counters run.values.elsewhere n (n + length (beside (reduce style fold acc loops body e comb) rest ending)) (reduce style fold acc loops body e comb)) (stages p.mems counters (no_run run.values.elsewhere) (n + length (beside (reduce style fold acc loops body e comb) rest ending) + length (inside (reduce style fold acc loops body e comb))) rest ending c)
        (node_within w scope (reduce style fold acc loops body e comb) run.values.elsewhere n (n + length (beside (reduce style fold acc loops body e comb) rest ending)) typed.0 (around_most rest w (right_most (kind_lanes (reduce style fold acc loops body e comb) w) (lanes_in rest w) h)) (left_most (kind_lanes (reduce style fold acc loops body e comb) w) (lanes_in rest w) h))
        (stages_within w (after scope (reduce style fold acc loops body e comb)) (no_run run.values.elsewhere) (n + length (beside (reduce style fold acc loops body e comb) rest ending) + length (inside (reduce style fold acc loops body e comb))) rest ending c typed.1 (right_most (kind_lanes (reduce style fold acc loops body e comb) w) (lanes_in rest w) h))
    stages_within w scope run n (more_stmt (stmt place (mem_reduce style acc loops body part comb)) rest) ending c typed h =
        later_within w (around_most rest w (right_most (kind_lanes (mem_reduce style acc loops body part comb) w) (lanes_in rest w) h)) run n (mem_reduce style acc loops body part comb) (node p.mems counters run.values.elsewhere n (n + length (beside (mem_reduce style acc loops body part comb) rest ending)) (mem_reduce style acc loops body part comb)) (stages p.mems counters (no_run run.values.elsewhere) (n + length (beside (mem_reduce style acc loops body part comb) rest ending) + length (inside (mem_reduce style acc loops body part comb))) rest ending c)
        (node_within w scope (mem_reduce style acc loops body part comb) run.values.elsewhere n (n + length (beside (mem_reduce style acc loops body part comb) rest ending)) typed.0 (around_most rest w (right_most (kind_lanes (mem_reduce style acc loops body part comb) w) (lanes_in rest w) h)) (left_most (kind_lanes (mem_reduce style acc loops body part comb) w) (lanes_in rest w) h))
        (stages_within w (after scope (mem_reduce style acc loops body part comb)) (no_run run.values.elsewhere) (n + length (beside (mem_reduce style acc loops body part comb) rest ending) + length (inside (mem_reduce style acc loops body part comb))) rest ending c typed.1 (right_most (kind_lanes (mem_reduce style acc loops body part comb) w) (lanes_in rest w) h))
    stages_within w scope run n (more_stmt (stmt place (fsm start tested test state body last next)) rest) ending c typed h =
        later_within w (around_most rest w (right_most (kind_lanes (fsm start tested test state body last next) w) (lanes_in rest w) h)) run n (fsm start tested test state body last next) (node p.mems counters run.values.elsewhere n (n + length (beside (fsm start tested test state body last next) rest ending)) (fsm start tested test state body last next)) (stages p.mems counters (no_run run.values.elsewhere) (n + length (beside (fsm start tested test state body last next) rest ending) + length (inside (fsm start tested test state body last next))) rest ending c)
        (node_within w scope (fsm start tested test state body last next) run.values.elsewhere n (n + length (beside (fsm start tested test state body last next) rest ending)) typed.0 (around_most rest w (right_most (kind_lanes (fsm start tested test state body last next) w) (lanes_in rest w) h)) (left_most (kind_lanes (fsm start tested test state body last next) w) (lanes_in rest w) h))
        (stages_within w (after scope (fsm start tested test state body last next)) (no_run run.values.elsewhere) (n + length (beside (fsm start tested test state body last next) rest ending) + length (inside (fsm start tested test state body last next))) rest ending c typed.1 (right_most (kind_lanes (fsm start tested test state body last next) w) (lanes_in rest w) h))
    stages_within w scope run n (more_stmt (stmt place (branch test first second)) rest) ending c typed h =
        later_within w (around_most rest w (right_most (kind_lanes (branch test first second) w) (lanes_in rest w) h)) run n (branch test first second) (node p.mems counters run.values.elsewhere n (n + length (beside (branch test first second) rest ending)) (branch test first second)) (stages p.mems counters (no_run run.values.elsewhere) (n + length (beside (branch test first second) rest ending) + length (inside (branch test first second))) rest ending c)
        (node_within w scope (branch test first second) run.values.elsewhere n (n + length (beside (branch test first second) rest ending)) typed.0 (around_most rest w (right_most (kind_lanes (branch test first second) w) (lanes_in rest w) h)) (left_most (kind_lanes (branch test first second) w) (lanes_in rest w) h))
        (stages_within w (after scope (branch test first second)) (no_run run.values.elsewhere) (n + length (beside (branch test first second) rest ending) + length (inside (branch test first second))) rest ending c typed.1 (right_most (kind_lanes (branch test first second) w) (lanes_in rest w) h))

    node_within : (w : ℕ) (scope : Scope) (kind : PlainStmtKind) (sources : Sources) (b n : ℕ) → StmtTyped p scope kind → w ≤ 16 → kind_lanes kind w ≤ 16 → IsWithin w (node p.mems counters sources b n kind)
    node_within w scope (load_sram sram dram spans) sources b n typed most h = either_within w (slice_lanes spans == 1) _ _ tt tt
    node_within w scope (load_line line dram spans) sources b n typed most h = either_within w (slice_lanes spans == 1) _ _ tt tt
    node_within w scope (store dram spans sram) sources b n typed most h = either_within w (slice_lanes spans == 1) _ _ tt tt
    node_within w scope (gather sram dram places e) sources b n typed most h = tt
    node_within w scope (scatter dram places e sram) sources b n typed most h = tt
    node_within w scope (block style body) sources b n typed most h =
        alone_within w most sources n (style_of p.mems counters style body) body no_more nothing _ (stages_within w scope (no_run sources) n body no_more nothing typed h)
    node_within w scope (foreach style loops body) sources b n typed most h =
        let g = in_loop sources b loops body w typed.1.lanes h in
        body_within w most sources n (counters_of p.mems sources b loops) style body no_more nothing _ g.0 (stages_within (w * lanes_of (counters_of p.mems sources b loops)) (with_counters scope loops) (no_run sources) n body no_more nothing typed.2 g.1)
    node_within w scope (reduce style fold acc loops body e comb) sources b n typed most h =
        let c : Combines = combines p.mems fold acc (b + length (registers_for is_early (bounds_of loops))) comb e in
        let g = in_loop sources b loops body w typed.1.lanes h in
        body_within w most sources n (counters_of p.mems sources b loops) style body (ending_of loops e) c _ g.0 (stages_within (w * lanes_of (counters_of p.mems sources b loops)) (with_counters scope loops) (no_run sources) n body (ending_of loops e) c typed.2 g.1)
    node_within w scope (mem_reduce style acc loops body part comb) sources b n typed most h =
        let c : Combines = reduces_elements part (mem_number p.mems acc) (b + length (registers_for is_early (bounds_of loops))) comb in
        let g = in_loop sources b loops body w typed.1.lanes h in
        (g.0, stages_within (w * lanes_of (counters_of p.mems sources b loops)) (with_counters scope loops) (no_run sources) n body no_more c typed.2 g.1)
    node_within w scope (fsm start tested test state body last next) sources b n typed most h =
        alone_within w most (with_state sources tested state last n) (suc n) Pipe body no_more nothing _
        (stages_within w (with_val scope state (type_of start)) (no_run (with_state sources tested state last n)) (suc n) body no_more nothing typed.4 h)
    node_within w scope (branch test first second) sources b n typed most h = (
      alone_within w most sources n Pipe first no_more nothing _ (stages_within w scope (no_run sources) n first no_more nothing typed.1 (left_most (lanes_in first w) (lanes_in second w) h)),
      alone_within w most sources (n + length (registers_in first no_more)) Pipe second no_more nothing _ (stages_within w scope (no_run sources) (n + length (registers_in first no_more)) second no_more nothing typed.2 (right_most (lanes_in first w) (lanes_in second w) h)),
    )
    node_within w scope (declare m) sources b n typed most h = by_one w most 1 refl
    node_within w scope (name v x) sources b n typed most h = by_one w most 1 refl
    node_within w scope (set_reg m x) sources b n typed most h = by_one w most 1 refl
    node_within w scope (set_out m x) sources b n typed most h = by_one w most 1 refl
    node_within w scope (set_sram m xs x) sources b n typed most h = by_one w most 1 refl
    node_within w scope (enq m x) sources b n typed most h = by_one w most 1 refl

pub program_within : (p : PlainProgram) → IsProgram p → IsWithin 1 (core_of p).root
unfolding core_of
program_within p h = alone_within p (length p.counters) 1 (omega arith) no_sources (length (written_mems p.mems)) Pipe p.body no_more nothing _
    (stages_within p (length p.counters) 1 (outer_scope p) (no_run no_sources) (length (written_mems p.mems)) p.body no_more nothing h.typed h.limits.lanes)
