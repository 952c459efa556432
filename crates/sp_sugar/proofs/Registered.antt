-- All that the compiler adds are registers.
use Rattle.std.proofs.Common.{ℕ, zero, suc, Bool, true, false, List, [], ◌∷◌, ◌++◌, if◌then◌else◌}
use Rattle.std.specs.Prelude.{slice_index_or}
use Rattle.sp_words.specs.Types.{int_type}
use Rattle.sp_tree.specs.PlainExpression.{PlainExpr, type_of}
use Rattle.sp_tree.specs.PlainStatement.{PlainStmtKind, PlainStmts, stmt, declare, name, set_reg, set_out, set_sram, enq, load_sram, load_line, store, gather, scatter, block, foreach, reduce, mem_reduce, fsm, branch, no_stmt, more_stmt}
use Rattle.sp_tree.specs.Structure.{is_inner}
use Rattle.sp_core.specs.PlainCore.{PlainMem, no_mem}
use Rattle.sp_sugar.specs.Early.{is_early, is_early_part, parts_of, bounds_of, registers_for}
use Rattle.sp_sugar.specs.Numbers.{begun_register, state_register, crossing_register}
use Rattle.sp_sugar.specs.Registers.{ending_of, at_end, beside, inside, registers, registers_in}
use Rattle.sp_sugar.specs.Uses.{Ending, no_more, in_last_run, in_combination, is_bare, does_cross}

module _ (Q : PlainMem → Type 0) (q_none : Q no_mem) (q_begun : Q begun_register) (q_state : (ty : _) → Q (state_register ty)) (q_crossing : (ty : _) → Q (crossing_register ty)) where
  -- all of them are so
  abbrev pub AllAre : List PlainMem → Type 0
  AllAre ms = (j : ℕ) → Q (slice_index_or ms j no_mem)

  are_none : AllAre []
  are_none j = q_none

  are_one : (m : PlainMem) → Q m → AllAre (m ∷ [])
  are_one m q zero = q
  are_one m q (suc j) = q_none

  are_both : (xs ys : List PlainMem) → AllAre xs → AllAre ys → AllAre (xs ++ ys)
  are_both [] ys f g j = g j
  are_both (x ∷ xs) ys f g zero = f zero
  are_both (x ∷ xs) ys f g (suc j) = are_both xs ys (λ i. f (suc i)) g j

  are_if : (b : Bool) (xs ys : List PlainMem) → AllAre xs → AllAre ys → AllAre (if b then xs else ys)
  are_if true xs ys f g = f
  are_if false xs ys f g = g

  are_early : (crosses : PlainExpr → Bool) (es : List PlainExpr) → AllAre (registers_for crosses es)
  are_early crosses [] = are_none
  are_early crosses (e ∷ es) = are_both _ _ (are_if (crosses e) (crossing_register int_type ∷ []) [] (are_one _ (q_crossing int_type)) are_none) (are_early crosses es)

  are_at_end : (ending : Ending) → AllAre (at_end ending)
  are_at_end no_more = are_none
  are_at_end (in_last_run e) = are_one _ (q_crossing (type_of e))
  are_at_end (in_combination e) = are_none

  are_beside : (kind : PlainStmtKind) (rest : PlainStmts) (ending : Ending) → AllAre (beside kind rest ending)
  are_beside (name v e) rest ending = are_if (is_bare e) [] _ are_none (are_if (does_cross v rest ending) (crossing_register (type_of e) ∷ []) [] (are_one _ (q_crossing (type_of e))) are_none)
  are_beside (reduce style fold acc loops body e comb) rest ending = are_both _ _ (are_early is_early (bounds_of loops)) (are_if fold [] (begun_register ∷ []) are_none (are_one _ q_begun))
  are_beside (mem_reduce style acc loops body part comb) rest ending = are_both _ _ (are_early is_early (bounds_of loops)) (are_one _ q_begun)
  are_beside (load_sram sram dram spans) rest ending = are_early (is_early_part spans) (parts_of spans)
  are_beside (load_line line dram spans) rest ending = are_early (is_early_part spans) (parts_of spans)
  are_beside (store dram spans sram) rest ending = are_early (is_early_part spans) (parts_of spans)
  are_beside (gather sram dram places n) rest ending = are_early is_early (n ∷ [])
  are_beside (scatter dram places n sram) rest ending = are_early is_early (n ∷ [])
  are_beside (foreach style loops body) rest ending = are_early is_early (bounds_of loops)
  are_beside (declare m) rest ending = are_none
  are_beside (set_reg m e) rest ending = are_none
  are_beside (set_out m e) rest ending = are_none
  are_beside (set_sram m is e) rest ending = are_none
  are_beside (enq m e) rest ending = are_none
  are_beside (block style body) rest ending = are_none
  are_beside (fsm start tested test state body last next) rest ending = are_none
  are_beside (branch test first second) rest ending = are_none

  are_in : (body : PlainStmts) (all : List PlainMem) → AllAre all → AllAre (if is_inner body then [] else all)
  are_in body all f = are_if (is_inner body) [] all are_none f

  mutual
    unfolding registers inside

    pub are_registers : (body : PlainStmts) (ending : Ending) → AllAre (registers body ending)
    are_registers no_stmt ending = are_at_end ending
    are_registers (more_stmt (stmt place kind) rest) ending = are_both _ _ (are_both _ _ (are_beside kind rest ending) (are_inside kind)) (are_registers rest ending)

    are_inside : (kind : PlainStmtKind) → AllAre (inside kind)
    are_inside (block style body) = are_in body _ (are_registers body no_more)
    are_inside (foreach style counters body) = are_in body _ (are_registers body no_more)
    are_inside (reduce style fold acc counters body e comb) = are_in body _ (are_registers body (ending_of counters e))
    are_inside (mem_reduce style acc counters body part comb) = are_registers body no_more
    are_inside (fsm start tested test state body last next) = are_both (state_register (type_of start) ∷ []) _ (are_one _ (q_state (type_of start))) (are_in body _ (are_registers body no_more))
    are_inside (branch test first second) = are_both _ _ (are_in first _ (are_registers first no_more)) (are_in second _ (are_registers second no_more))
    are_inside _ = are_none

  pub are_registers_in : (body : PlainStmts) (ending : Ending) → AllAre (registers_in body ending)
  are_registers_in body ending = are_in body _ (are_registers body ending)
