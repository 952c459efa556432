-- How many registers the core of a body adds.
use Rattle.std.proofs.Common.{ℕ, ◌+◌, ◌*◌, ◌≤◌, Bool, true, false, List, [], ◌∷◌, ◌++◌, arith, length-append, if◌then◌else◌}
use Rattle.std.specs.Prelude.{length, sum_by}
use Rattle.sp_words.specs.Types.{int_type}
use Rattle.sp_tree.specs.Counts.{nodes_in, kind_nodes}
use Rattle.sp_tree.specs.PlainExpression.{PlainExpr, type_of}
use Rattle.sp_tree.specs.PlainStatement.{PlainStmtKind, PlainStmts, stmt, declare, name, set_reg, set_out, set_sram, enq, load_sram, load_line, store, gather, scatter, block, foreach, reduce, mem_reduce, fsm, branch, no_stmt, more_stmt}
use Rattle.sp_tree.specs.Structure.{is_inner, outside}
use Rattle.sp_tree.specs.Tallies.{Tally, tally, slice_tally}
use Rattle.sp_core.specs.PlainCore as core
use Rattle.sp_core.specs.PlainCore.{PlainOp, PlainNode, PlainStages, more_stage, no_stage}
use Rattle.sp_sugar.specs.Early.{bounds_of, parts_of, is_early, is_early_part, registers_for}
use Rattle.sp_sugar.specs.Registers.{ending_of, at_end, beside, inside, registers, registers_in}
use Rattle.sp_sugar.specs.Uses.{is_bare, does_cross, Ending, no_more, in_last_run, in_combination}
use Rattle.sp_sugar.specs.Numbers.{begun_register, crossing_register}
use Rattle.sp_sugar.proofs.Sizes.{all_nodes, some_nodes, bound_nodes, part_nodes, alone_nodes}

-- the registers that are added
if_count : (b : Bool) (xs ys : List core.PlainMem) (k : ℕ) → length xs ≤ k → length ys ≤ k → length (if b then xs else ys) ≤ k
if_count true xs ys k e f = e
if_count false xs ys k e f = f

early_count : (crosses : PlainExpr → Bool) (es : List PlainExpr) → length (registers_for crosses es) ≤ all_nodes es
early_count crosses [] = omega arith
early_count crosses (e ∷ es) =
    let first : List core.PlainMem = if crosses e then crossing_register int_type ∷ [] else [] in
    let f : length first ≤ 1 = if_count (crosses e) (crossing_register int_type ∷ []) [] 1 (omega arith) (omega arith) in
    omega (arith, f, some_nodes e, early_count crosses es, length-append first (registers_for crosses es))

beside_count : (kind : PlainStmtKind) (rest : PlainStmts) (ending : Ending) → length (beside kind rest ending) ≤ 1 + sum_by (λ (t : Tally). t.nodes) (outside kind)
beside_count (name v e) rest ending = if_count (is_bare e) [] _ _ (omega arith) (if_count (does_cross v rest ending) (crossing_register (type_of e) ∷ []) [] _ (omega arith) (omega arith))
beside_count (reduce style fold acc loops body e comb) rest ending =
    let last : List core.PlainMem = if fold then [] else begun_register ∷ [] in
    let f : length last ≤ 1 = if_count fold [] (begun_register ∷ []) 1 (omega arith) (omega arith) in
    omega (arith, f, early_count is_early (bounds_of loops), bound_nodes loops, length-append (registers_for is_early (bounds_of loops)) last)
beside_count (mem_reduce style acc loops body part comb) rest ending = omega (arith, early_count is_early (bounds_of loops), bound_nodes loops, length-append (registers_for is_early (bounds_of loops)) (begun_register ∷ []))
beside_count (load_sram sram dram spans) rest ending = omega (arith, early_count (is_early_part spans) (parts_of spans), part_nodes spans, alone_nodes (slice_tally spans))
beside_count (load_line line dram spans) rest ending = omega (arith, early_count (is_early_part spans) (parts_of spans), part_nodes spans, alone_nodes (slice_tally spans))
beside_count (store dram spans sram) rest ending = omega (arith, early_count (is_early_part spans) (parts_of spans), part_nodes spans, alone_nodes (slice_tally spans))
beside_count (gather sram dram places n) rest ending = omega (arith, early_count is_early (n ∷ []), alone_nodes (tally n))
beside_count (scatter dram places n sram) rest ending = omega (arith, early_count is_early (n ∷ []), alone_nodes (tally n))
beside_count (foreach style loops body) rest ending = omega (arith, early_count is_early (bounds_of loops), bound_nodes loops)
beside_count (declare m) rest ending = omega arith
beside_count (set_reg m e) rest ending = omega arith
beside_count (set_out m e) rest ending = omega arith
beside_count (set_sram m is e) rest ending = omega arith
beside_count (enq m e) rest ending = omega arith
beside_count (block style body) rest ending = omega arith
beside_count (fsm start tested test state body last next) rest ending = omega arith
beside_count (branch test first second) rest ending = omega arith

end_count : (ending : Ending) → length (at_end ending) ≤ 1
end_count no_more = omega arith
end_count (in_last_run e) = omega arith
end_count (in_combination e) = omega arith

in_count : (body : PlainStmts) (all : List core.PlainMem) (k : ℕ) → length all ≤ k → length (if is_inner body then [] else all) ≤ k
in_count body all k h = if_count (is_inner body) [] all k (omega arith) h

mutual
  unfolding registers inside

  registers_count : (body : PlainStmts) (ending : Ending) → length (registers body ending) ≤ 4 * nodes_in body + 1
  registers_count no_stmt ending = omega (arith, end_count ending)
  registers_count (more_stmt (stmt place kind) rest) ending =
      omega (arith, beside_count kind rest ending, inside_count kind, registers_count rest ending, length-append (beside kind rest ending) (inside kind), length-append (beside kind rest ending ++ inside kind) (registers rest ending))

  inside_count : (kind : PlainStmtKind) → length (inside kind) ≤ 4 * kind_nodes kind + 2
  inside_count (block style body) = omega (arith, in_count body (registers body no_more) (4 * nodes_in body + 1) (registers_count body no_more))
  inside_count (foreach style counters body) = omega (arith, in_count body (registers body no_more) (4 * nodes_in body + 1) (registers_count body no_more))
  inside_count (reduce style fold acc counters body e comb) = omega (arith, in_count body (registers body (ending_of counters e)) (4 * nodes_in body + 1) (registers_count body (ending_of counters e)))
  inside_count (mem_reduce style acc counters body part comb) = omega (arith, registers_count body no_more)
  inside_count (fsm start tested test state body last next) = omega (arith, in_count body (registers body no_more) (4 * nodes_in body + 1) (registers_count body no_more))
  inside_count (branch test first second) =
      omega (
        arith,
        in_count first (registers first no_more) (4 * nodes_in first + 1) (registers_count first no_more),
        in_count second (registers second no_more) (4 * nodes_in second + 1) (registers_count second no_more),
        length-append (registers_in first no_more) (registers_in second no_more),
      )
  inside_count _ = omega arith

pub registers_in_count : (body : PlainStmts) (ending : Ending) → length (registers_in body ending) ≤ 4 * nodes_in body + 1
registers_in_count body ending = in_count body (registers body ending) (4 * nodes_in body + 1) (registers_count body ending)
