-- The nodes and the stages of the core of a program.
use Rattle.std.proofs.Common.{ℕ, suc, ◌+◌, ◌==◌, Bool, true, false, cond, List, [], ◌∷◌, ◌++◌, length, map, None}
use Rattle.sp_words.specs.declared.kind.Style.{Style}
use Rattle.sp_words.specs.declared.kind.Style.TheVariants.{Pipe}
use Rattle.sp_words.specs.declared.types.Ty.{Ty}
use Rattle.sp_tree.specs.declared.statement.Comb.{Comb}
use Rattle.sp_tree.specs.Expressions.{mem, dims}
use Rattle.sp_tree.specs.PlainExpression.{PlainExpr, expr, get_sram, type_of}
use Rattle.sp_tree.specs.PlainProgram.{PlainMem, PlainProgram}
use Rattle.sp_tree.specs.PlainStatement.{PlainSpan, PlainStmtKind, PlainStmts, stmt, declare, name, set_reg, set_out, set_sram, enq, load_sram, load_line, store, gather, scatter, block, foreach, reduce, mem_reduce, fsm, branch, no_stmt, more_stmt}
use Rattle.sp_tree.specs.Structure.{own_mems, is_inner, slice_lanes}
use Rattle.sp_core.specs.PlainCore as core
use Rattle.sp_core.specs.PlainCore.{PlainOp, PlainCounter, PlainNode, PlainStages, no_stage, more_stage}
use Rattle.sp_sugar.specs.Combination.{element_value, element_ops, element_loop, element_indices}
use Rattle.sp_sugar.specs.Core.{core_of}
use Rattle.sp_sugar.specs.Early.{registers_for, counters_of, is_early, is_early_slice, is_early_part, parts_of, into_register, slice_ops, bounds_of, bound_stages, slice_stage, early_stages}
use Rattle.sp_sugar.specs.Numbers.{written_mems, mem_number}
use Rattle.sp_sugar.specs.Operations.{Code, alone, read_op, write_op, code}
use Rattle.sp_sugar.specs.Registers.{ending_of, beside, inside, registers_in}
use Rattle.sp_sugar.specs.Runs.{Run, no_run, next_code, with_stmt, inner_run}
use Rattle.sp_sugar.specs.Stages.{run_stage, first_of, Combines, nothing, folds, reduces, reduces_elements, combines, combining, combination, combination_stage, inner_node, last_stages, style_of, outer_node, body_node, stages, node}
use Rattle.sp_sugar.specs.Uses.{Ending, no_more, in_last_run, in_combination}
use Rattle.sp_sugar.specs.Values.{Sources, no_sources, with_state}
use Rattle.sp_lane_groups.specs.LiveStores.{ArePlain}
use Rattle.sp_lane_groups.specs.PlainLaws.{HasPlainCore}
use Rattle.sp_lane_groups.specs.PlainNodes.{AreCountersPlain, IsNodePlain, AreStagesPlain}
use Rattle.sp_lane_groups.proofs.PlainLists.{both, code_plain, into_plain, from_plain, counters_plain, spans_plain, slice_plain, next_plain, stmt_plain, body_plain, combining_plain, elements_plain, loop_plain}

run_plain : (ops : List PlainOp) (rest : PlainStages) → ArePlain ops → AreStagesPlain rest → AreStagesPlain (run_stage ops rest)
run_plain [] rest h k = k
run_plain (op ∷ ops) rest h k = ((tt, h), k)

module _ (mems : List PlainMem) (counters : ℕ) where
  if_plain : (b : Bool) (ops : List PlainOp) (x y : PlainStages) → ArePlain ops → AreStagesPlain x → AreStagesPlain y → AreStagesPlain (cond b (more_stage 0 0 false (core.inner [] [] ops None) x) y)
  if_plain true ops x y h k l = ((tt, h), k)
  if_plain false ops x y h k l = l

  bounds_plain : (sources : Sources) (r : ℕ) (es : List PlainExpr) (rest : PlainStages) → AreStagesPlain rest → AreStagesPlain (bound_stages mems sources r es rest)
  bounds_plain sources r [] rest h = h
  bounds_plain sources r (e ∷ es) rest h =
      if_plain (is_early e) (into_register mems sources 0 r e) (bound_stages mems sources (suc r) es rest) (bound_stages mems sources r es rest) (into_plain mems sources 0 r e) (bounds_plain sources (suc r) es rest h) (bounds_plain sources r es rest h)

  parts_plain : (sources : Sources) (r : ℕ) (spans : List PlainSpan) (rest : PlainStages) → AreStagesPlain rest → AreStagesPlain (slice_stage mems sources r spans rest)
  parts_plain sources r spans rest h = if_plain (is_early_slice spans) (slice_ops mems sources (is_early_part spans) 0 r (parts_of spans)) rest rest (slice_plain mems sources (is_early_part spans) 0 r (parts_of spans)) h h

  early_plain : (sources : Sources) (r : ℕ) (kind : PlainStmtKind) (rest : PlainStages) → AreStagesPlain rest → AreStagesPlain (early_stages mems sources r kind rest)
  early_plain sources r (load_sram sram dram spans) rest h = parts_plain sources r spans rest h
  early_plain sources r (load_line line dram spans) rest h = parts_plain sources r spans rest h
  early_plain sources r (store dram spans sram) rest h = parts_plain sources r spans rest h
  early_plain sources r (gather sram dram places e) rest h = bounds_plain sources r (e ∷ []) rest h
  early_plain sources r (scatter dram places e sram) rest h = bounds_plain sources r (e ∷ []) rest h
  early_plain sources r (block style body) rest h = h
  early_plain sources r (foreach style loops body) rest h = bounds_plain sources r (bounds_of loops) rest h
  early_plain sources r (reduce style fold acc loops body e comb) rest h = bounds_plain sources r (bounds_of loops) rest h
  early_plain sources r (mem_reduce style acc loops body part comb) rest h = bounds_plain sources r (bounds_of loops) rest h
  early_plain sources r (fsm start tested test state body last next) rest h = h
  early_plain sources r (branch test first second) rest h = h
  early_plain sources r (declare m) rest h = h
  early_plain sources r (name v x) rest h = h
  early_plain sources r (set_reg m x) rest h = h
  early_plain sources r (set_out m x) rest h = h
  early_plain sources r (set_sram m xs x) rest h = h
  early_plain sources r (enq m x) rest h = h

  combination_plain : (before : List PlainOp) (x : Code) (c : Combines) (loops : List PlainCounter) (owned : List ℕ) → ArePlain before → ArePlain x.ops → AreCountersPlain loops → IsNodePlain (combination mems counters before x c loops owned)
  combination_plain before x c loops owned h k l =
      (l, both (before ++ x.ops) (combining mems counters (length before + length x.ops) x.word c) (both before x.ops h k) (combining_plain mems counters (length before + length x.ops) x.word c))

  combined_plain : (x : Code) (c : Combines) → ArePlain x.ops → AreStagesPlain (combination_stage mems counters x c)
  combined_plain x c h = (combination_plain [] x c [] [] tt h tt, tt)

  element_loop_plain : (c : ℕ) (ds : List ℕ) (part acc begun : ℕ) (ty : Ty) (comb : Comb) → IsNodePlain (element_loop mems c ds part acc begun ty comb)
  element_loop_plain c ds part acc begun ty comb =
      let value : Code = element_value mems c ds part ty in
      (loop_plain c ds, both value.ops (element_ops mems (length value.ops) value.word c ds acc begun ty comb) (code_plain mems no_sources (expr 0 ty (get_sram part (element_indices c ds))) 0) (elements_plain mems (length value.ops) value.word c ds acc begun ty comb))

  -- the last run, after which the word of a loop is written
  last_run_plain : (run : Run) (n : ℕ) (e : PlainExpr) (rest : PlainStages) → ArePlain run.ops → AreStagesPlain rest
      → AreStagesPlain (run_stage (run.ops ++ (next_code mems run e).ops ++ write_op (type_of e) n ((next_code mems run e).word ∷ []) ∷ []) rest)
  last_run_plain run n e rest h k =
      let x : Code = next_code mems run e in
      let w : List PlainOp = write_op (type_of e) n (x.word ∷ []) ∷ [] in
      run_plain (run.ops ++ x.ops ++ w) rest (both (run.ops ++ x.ops) w (both run.ops x.ops h (next_plain mems run e)) (tt, tt)) k

  last_plain : (run : Run) (n : ℕ) (ending : Ending) (c : Combines) → ArePlain run.ops → AreStagesPlain (last_stages mems counters run n ending c)
  last_plain run n no_more nothing h = run_plain run.ops no_stage h tt
  last_plain run n no_more (folds acc comb e) h = run_plain run.ops no_stage h tt
  last_plain run n no_more (reduces acc begun comb e) h = run_plain run.ops no_stage h tt
  last_plain run n no_more (reduces_elements part acc begun comb) h = run_plain run.ops _ h (element_loop_plain counters (dims mems part) part acc begun (mem mems part).ty comb, tt)
  last_plain run n (in_combination x) nothing h = run_plain run.ops _ h (combined_plain (code mems run.values.elsewhere 0 x) nothing (code_plain mems run.values.elsewhere x 0))
  last_plain run n (in_combination x) (folds acc comb e) h = run_plain run.ops _ h (combined_plain (code mems run.values.elsewhere 0 x) (folds acc comb e) (code_plain mems run.values.elsewhere x 0))
  last_plain run n (in_combination x) (reduces acc begun comb e) h = run_plain run.ops _ h (combined_plain (code mems run.values.elsewhere 0 x) (reduces acc begun comb e) (code_plain mems run.values.elsewhere x 0))
  last_plain run n (in_combination x) (reduces_elements part acc begun comb) h = run_plain run.ops _ h (element_loop_plain counters (dims mems part) part acc begun (mem mems part).ty comb, tt)
  last_plain run n (in_last_run x) nothing h = last_run_plain run n x _ h (combined_plain (alone 0 (read_op (type_of x) n [])) nothing (tt, tt))
  last_plain run n (in_last_run x) (folds acc comb e) h = last_run_plain run n x _ h (combined_plain (alone 0 (read_op (type_of x) n [])) (folds acc comb e) (tt, tt))
  last_plain run n (in_last_run x) (reduces acc begun comb e) h = last_run_plain run n x _ h (combined_plain (alone 0 (read_op (type_of x) n [])) (reduces acc begun comb e) (tt, tt))
  last_plain run n (in_last_run x) (reduces_elements part acc begun comb) h = run_plain run.ops _ h (element_loop_plain counters (dims mems part) part acc begun (mem mems part).ty comb, tt)

  inner_plain : (sources : Sources) (loops : List PlainCounter) (body : PlainStmts) (c : Combines) → AreCountersPlain loops → IsNodePlain (inner_node mems counters sources loops body c)
  inner_plain sources loops body nothing h = (h, body_plain mems (no_run sources) body tt)
  inner_plain sources loops body (folds acc comb e) h =
      let run : Run = inner_run mems (no_run sources) body in
      combination_plain run.ops (next_code mems run e) (folds acc comb e) loops (map (mem_number mems) (own_mems body)) (body_plain mems (no_run sources) body tt) (next_plain mems run e) h
  inner_plain sources loops body (reduces acc begun comb e) h =
      let run : Run = inner_run mems (no_run sources) body in
      combination_plain run.ops (next_code mems run e) (reduces acc begun comb e) loops (map (mem_number mems) (own_mems body)) (body_plain mems (no_run sources) body tt) (next_plain mems run e) h
  inner_plain sources loops body (reduces_elements part acc begun comb) h = (h, body_plain mems (no_run sources) body tt)

  bodies_plain : (sources : Sources) (n : ℕ) (loops : List PlainCounter) (style : Style) (body : PlainStmts) (ending : Ending) (c : Combines) (all : PlainStages) → AreCountersPlain loops → AreStagesPlain all
      → IsNodePlain (body_node mems counters sources n loops style body ending c all)
  bodies_plain sources n loops style body ending c all h k = by (is_inner body)
    where
      by : (b : Bool) → IsNodePlain (cond b (inner_node mems counters sources loops body c) (outer_node mems counters n loops style body ending all))
      by true = inner_plain sources loops body c h
      by false = (h, k)

  either_plain : (b : Bool) (x y : PlainNode) → IsNodePlain x → IsNodePlain y → IsNodePlain (cond b x y)
  either_plain true x y h k = h
  either_plain false x y h k = k

  -- a stage and those after it
  later_plain : (run : Run) → ArePlain run.ops → (n : ℕ) (kind : PlainStmtKind) (x : PlainNode) (others : PlainStages) → IsNodePlain x → AreStagesPlain others
      → AreStagesPlain (run_stage run.ops (early_stages mems run.values.elsewhere n kind (more_stage 0 0 false x others)))
  later_plain run r n kind x others h k = run_plain run.ops (early_stages mems run.values.elsewhere n kind (more_stage 0 0 false x others)) r (early_plain run.values.elsewhere n kind (more_stage 0 0 false x others) (h, k))

  mutual
    unfolding stages node

    pub stages_plain : (run : Run) (n : ℕ) (body : PlainStmts) (ending : Ending) (c : Combines) → ArePlain run.ops → AreStagesPlain (stages mems counters run n body ending c)
    stages_plain run n no_stmt ending c h = last_plain run n ending c h
    stages_plain run n (more_stmt (stmt place (declare m)) rest) ending c h = stages_plain (with_stmt mems false (first_of n (beside (declare m) rest ending)) run (declare m)) (n + length (beside (declare m) rest ending)) rest ending c (stmt_plain mems false (first_of n (beside (declare m) rest ending)) run (declare m) h)
    stages_plain run n (more_stmt (stmt place (name v x)) rest) ending c h = stages_plain (with_stmt mems false (first_of n (beside (name v x) rest ending)) run (name v x)) (n + length (beside (name v x) rest ending)) rest ending c (stmt_plain mems false (first_of n (beside (name v x) rest ending)) run (name v x) h)
    stages_plain run n (more_stmt (stmt place (set_reg m x)) rest) ending c h = stages_plain (with_stmt mems false (first_of n (beside (set_reg m x) rest ending)) run (set_reg m x)) (n + length (beside (set_reg m x) rest ending)) rest ending c (stmt_plain mems false (first_of n (beside (set_reg m x) rest ending)) run (set_reg m x) h)
    stages_plain run n (more_stmt (stmt place (set_out m x)) rest) ending c h = stages_plain (with_stmt mems false (first_of n (beside (set_out m x) rest ending)) run (set_out m x)) (n + length (beside (set_out m x) rest ending)) rest ending c (stmt_plain mems false (first_of n (beside (set_out m x) rest ending)) run (set_out m x) h)
    stages_plain run n (more_stmt (stmt place (set_sram m xs x)) rest) ending c h = stages_plain (with_stmt mems false (first_of n (beside (set_sram m xs x) rest ending)) run (set_sram m xs x)) (n + length (beside (set_sram m xs x) rest ending)) rest ending c (stmt_plain mems false (first_of n (beside (set_sram m xs x) rest ending)) run (set_sram m xs x) h)
    stages_plain run n (more_stmt (stmt place (enq m x)) rest) ending c h = stages_plain (with_stmt mems false (first_of n (beside (enq m x) rest ending)) run (enq m x)) (n + length (beside (enq m x) rest ending)) rest ending c (stmt_plain mems false (first_of n (beside (enq m x) rest ending)) run (enq m x) h)
    stages_plain run n (more_stmt (stmt place (load_sram sram dram spans)) rest) ending c h =
        later_plain run h n (load_sram sram dram spans) (node mems counters run.values.elsewhere n (n + length (beside (load_sram sram dram spans) rest ending)) (load_sram sram dram spans)) (stages mems counters (no_run run.values.elsewhere) (n + length (beside (load_sram sram dram spans) rest ending) + length (inside (load_sram sram dram spans))) rest ending c) (node_plain (load_sram sram dram spans) run.values.elsewhere n (n + length (beside (load_sram sram dram spans) rest ending)))
        (stages_plain (no_run run.values.elsewhere) (n + length (beside (load_sram sram dram spans) rest ending) + length (inside (load_sram sram dram spans))) rest ending c tt)
    stages_plain run n (more_stmt (stmt place (load_line line dram spans)) rest) ending c h =
        later_plain run h n (load_line line dram spans) (node mems counters run.values.elsewhere n (n + length (beside (load_line line dram spans) rest ending)) (load_line line dram spans)) (stages mems counters (no_run run.values.elsewhere) (n + length (beside (load_line line dram spans) rest ending) + length (inside (load_line line dram spans))) rest ending c) (node_plain (load_line line dram spans) run.values.elsewhere n (n + length (beside (load_line line dram spans) rest ending)))
        (stages_plain (no_run run.values.elsewhere) (n + length (beside (load_line line dram spans) rest ending) + length (inside (load_line line dram spans))) rest ending c tt)
    stages_plain run n (more_stmt (stmt place (store dram spans sram)) rest) ending c h =
        later_plain run h n (store dram spans sram) (node mems counters run.values.elsewhere n (n + length (beside (store dram spans sram) rest ending)) (store dram spans sram)) (stages mems counters (no_run run.values.elsewhere) (n + length (beside (store dram spans sram) rest ending) + length (inside (store dram spans sram))) rest ending c) (node_plain (store dram spans sram) run.values.elsewhere n (n + length (beside (store dram spans sram) rest ending)))
        (stages_plain (no_run run.values.elsewhere) (n + length (beside (store dram spans sram) rest ending) + length (inside (store dram spans sram))) rest ending c tt)
    stages_plain run n (more_stmt (stmt place (gather sram dram places e)) rest) ending c h =
        later_plain run h n (gather sram dram places e) (node mems counters run.values.elsewhere n (n + length (beside (gather sram dram places e) rest ending)) (gather sram dram places e)) (stages mems counters (no_run run.values.elsewhere) (n + length (beside (gather sram dram places e) rest ending) + length (inside (gather sram dram places e))) rest ending c) (node_plain (gather sram dram places e) run.values.elsewhere n (n + length (beside (gather sram dram places e) rest ending)))
        (stages_plain (no_run run.values.elsewhere) (n + length (beside (gather sram dram places e) rest ending) + length (inside (gather sram dram places e))) rest ending c tt)
    stages_plain run n (more_stmt (stmt place (scatter dram places e sram)) rest) ending c h =
        later_plain run h n (scatter dram places e sram) (node mems counters run.values.elsewhere n (n + length (beside (scatter dram places e sram) rest ending)) (scatter dram places e sram)) (stages mems counters (no_run run.values.elsewhere) (n + length (beside (scatter dram places e sram) rest ending) + length (inside (scatter dram places e sram))) rest ending c) (node_plain (scatter dram places e sram) run.values.elsewhere n (n + length (beside (scatter dram places e sram) rest ending)))
        (stages_plain (no_run run.values.elsewhere) (n + length (beside (scatter dram places e sram) rest ending) + length (inside (scatter dram places e sram))) rest ending c tt)
    stages_plain run n (more_stmt (stmt place (block style body)) rest) ending c h =
        later_plain run h n (block style body) (node mems counters run.values.elsewhere n (n + length (beside (block style body) rest ending)) (block style body)) (stages mems counters (no_run run.values.elsewhere) (n + length (beside (block style body) rest ending) + length (inside (block style body))) rest ending c) (node_plain (block style body) run.values.elsewhere n (n + length (beside (block style body) rest ending)))
        (stages_plain (no_run run.values.elsewhere) (n + length (beside (block style body) rest ending) + length (inside (block style body))) rest ending c tt)
    stages_plain run n (more_stmt (stmt place (foreach style loops body)) rest) ending c h =
        later_plain run h n (foreach style loops body) (node mems counters run.values.elsewhere n (n + length (beside (foreach style loops body) rest ending)) (foreach style loops body)) (stages mems counters (no_run run.values.elsewhere) (n + length (beside (foreach style loops body) rest ending) + length (inside (foreach style loops body))) rest ending c) (node_plain (foreach style loops body) run.values.elsewhere n (n + length (beside (foreach style loops body) rest ending)))
        (stages_plain (no_run run.values.elsewhere) (n + length (beside (foreach style loops body) rest ending) + length (inside (foreach style loops body))) rest ending c tt)
    stages_plain run n (more_stmt (stmt place (reduce style fold acc loops body e comb)) rest) ending c h =
        later_plain run h n (reduce style fold acc loops body e comb) (node mems counters run.values.elsewhere n (n + length (beside (reduce style fold acc loops body e comb) rest ending)) (reduce style fold acc loops body e comb)) (stages mems counters (no_run run.values.elsewhere) (n + length (beside (reduce style fold acc loops body e comb) rest ending) + length (inside (reduce style fold acc loops body e comb))) rest ending c) (node_plain (reduce style fold acc loops body e comb) run.values.elsewhere n (n + length (beside (reduce style fold acc loops body e comb) rest ending)))
        (stages_plain (no_run run.values.elsewhere) (n + length (beside (reduce style fold acc loops body e comb) rest ending) + length (inside (reduce style fold acc loops body e comb))) rest ending c tt)
    stages_plain run n (more_stmt (stmt place (mem_reduce style acc loops body part comb)) rest) ending c h =
        later_plain run h n (mem_reduce style acc loops body part comb) (node mems counters run.values.elsewhere n (n + length (beside (mem_reduce style acc loops body part comb) rest ending)) (mem_reduce style acc loops body part comb)) (stages mems counters (no_run run.values.elsewhere) (n + length (beside (mem_reduce style acc loops body part comb) rest ending) + length (inside (mem_reduce style acc loops body part comb))) rest ending c) (node_plain (mem_reduce style acc loops body part comb) run.values.elsewhere n (n + length (beside (mem_reduce style acc loops body part comb) rest ending)))
        (stages_plain (no_run run.values.elsewhere) (n + length (beside (mem_reduce style acc loops body part comb) rest ending) + length (inside (mem_reduce style acc loops body part comb))) rest ending c tt)
    stages_plain run n (more_stmt (stmt place (fsm start tested test state body last next)) rest) ending c h =
        later_plain run h n (fsm start tested test state body last next) (node mems counters run.values.elsewhere n (n + length (beside (fsm start tested test state body last next) rest ending)) (fsm start tested test state body last next)) (stages mems counters (no_run run.values.elsewhere) (n + length (beside (fsm start tested test state body last next) rest ending) + length (inside (fsm start tested test state body last next))) rest ending c) (node_plain (fsm start tested test state body last next) run.values.elsewhere n (n + length (beside (fsm start tested test state body last next) rest ending)))
        (stages_plain (no_run run.values.elsewhere) (n + length (beside (fsm start tested test state body last next) rest ending) + length (inside (fsm start tested test state body last next))) rest ending c tt)
    stages_plain run n (more_stmt (stmt place (branch test first second)) rest) ending c h =
        later_plain run h n (branch test first second) (node mems counters run.values.elsewhere n (n + length (beside (branch test first second) rest ending)) (branch test first second)) (stages mems counters (no_run run.values.elsewhere) (n + length (beside (branch test first second) rest ending) + length (inside (branch test first second))) rest ending c) (node_plain (branch test first second) run.values.elsewhere n (n + length (beside (branch test first second) rest ending)))
        (stages_plain (no_run run.values.elsewhere) (n + length (beside (branch test first second) rest ending) + length (inside (branch test first second))) rest ending c tt)

    node_plain : (kind : PlainStmtKind) (sources : Sources) (b n : ℕ) → IsNodePlain (node mems counters sources b n kind)
    node_plain (load_sram sram dram spans) sources b n = either_plain (slice_lanes spans == 1) _ _ (spans_plain mems sources (is_early_part spans) b spans) (spans_plain mems sources (is_early_part spans) b spans, tt)
    node_plain (load_line line dram spans) sources b n = either_plain (slice_lanes spans == 1) _ _ (spans_plain mems sources (is_early_part spans) b spans) (spans_plain mems sources (is_early_part spans) b spans, tt)
    node_plain (store dram spans sram) sources b n = either_plain (slice_lanes spans == 1) _ _ (spans_plain mems sources (is_early_part spans) b spans) (spans_plain mems sources (is_early_part spans) b spans, tt)
    node_plain (gather sram dram places e) sources b n = (tt, from_plain mems sources is_early b e)
    node_plain (scatter dram places e sram) sources b n = (tt, from_plain mems sources is_early b e)
    node_plain (block style body) sources b n =
        bodies_plain sources n [] (style_of mems counters style body) body no_more nothing _ tt (stages_plain (no_run sources) n body no_more nothing tt)
    node_plain (foreach style loops body) sources b n =
        bodies_plain sources n (counters_of mems sources b loops) style body no_more nothing _ (counters_plain mems sources b loops) (stages_plain (no_run sources) n body no_more nothing tt)
    node_plain (reduce style fold acc loops body e comb) sources b n =
        let c : Combines = combines mems fold acc (b + length (registers_for is_early (bounds_of loops))) comb e in
        bodies_plain sources n (counters_of mems sources b loops) style body (ending_of loops e) c _ (counters_plain mems sources b loops) (stages_plain (no_run sources) n body (ending_of loops e) c tt)
    node_plain (mem_reduce style acc loops body part comb) sources b n =
        (counters_plain mems sources b loops, stages_plain (no_run sources) n body no_more (reduces_elements part (mem_number mems acc) (b + length (registers_for is_early (bounds_of loops))) comb) tt)
    node_plain (fsm start tested test state body last next) sources b n =
        let kept : Sources = with_state sources tested state last n in
        (code_plain mems sources start 0, code_plain mems kept test 0, bodies_plain kept (suc n) [] Pipe body no_more nothing _ tt (stages_plain (no_run kept) (suc n) body no_more nothing tt), code_plain mems kept next 0)
    node_plain (branch test first second) sources b n = (
      code_plain mems sources test 0,
      bodies_plain sources n [] Pipe first no_more nothing _ tt (stages_plain (no_run sources) n first no_more nothing tt),
      bodies_plain sources (n + length (registers_in first no_more)) [] Pipe second no_more nothing _ tt (stages_plain (no_run sources) (n + length (registers_in first no_more)) second no_more nothing tt),
    )
    node_plain (declare m) sources b n = (tt, tt)
    node_plain (name v x) sources b n = (tt, tt)
    node_plain (set_reg m x) sources b n = (tt, tt)
    node_plain (set_out m x) sources b n = (tt, tt)
    node_plain (set_sram m xs x) sources b n = (tt, tt)
    node_plain (enq m x) sources b n = (tt, tt)

pub core_plain : (p : PlainProgram) → HasPlainCore p
unfolding core_of
core_plain p =
    bodies_plain p.mems (length p.counters) no_sources (length (written_mems p.mems)) [] Pipe p.body no_more nothing _ tt
    (stages_plain p.mems (length p.counters) (no_run no_sources) (length (written_mems p.mems)) p.body no_more nothing tt)
