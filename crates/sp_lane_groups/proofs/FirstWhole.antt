-- In each inner body of the core of a program memories are reset before they are used.
use Rattle.std.proofs.Common.{◌≡◌, ℕ, suc, ◌+◌, ◌<◌, ◌≤◌, ◌==◌, Bool, true, false, cond, List, [], ◌∷◌, ◌++◌, length, map, sym, subst, arith}
use Rattle.std.proofs.lemmas.Bool.{true≢false}
use Rattle.std.proofs.lemmas.List.{append_assoc, length-append}
use Rattle.sp_words.specs.declared.kind.Style.{Style}
use Rattle.sp_words.specs.declared.kind.Style.TheVariants.{Pipe}
use Rattle.sp_tree.specs.Expressions.{mem}
use Rattle.sp_tree.specs.Invariant.{IsProgram, outer_scope}
use Rattle.sp_tree.specs.PlainExpression.{type_of}
use Rattle.sp_tree.specs.PlainProgram.{PlainProgram}
use Rattle.sp_tree.specs.PlainStatement.{PlainStmtKind, PlainStmts, stmt, declare, name, set_reg, set_out, set_sram, enq, load_sram, load_line, store, gather, scatter, block, foreach, reduce, mem_reduce, fsm, branch, no_stmt, more_stmt}
use Rattle.sp_tree.specs.Structure.{mems_declared, mems_in, own_mems, is_inner, slice_lanes}
use Rattle.sp_tree.specs.Typing.{Scope, BodyTyped, StmtTyped, after, with_counters, with_val}
use Rattle.sp_core.specs.Declarations.{mem as core_mem}
use Rattle.sp_core.specs.PlainCore as core_tree
use Rattle.sp_core.specs.PlainCore.{PlainOp, PlainCounter, PlainNode, PlainStages, PlainCore, no_stage, more_stage}
use Rattle.sp_lane_groups.specs.Waiting.{ResetsFirst, waits_in}
use Rattle.sp_lane_groups.specs.InnersAlong.{BodiesResetFirst, StagesResetFirst}
use Rattle.sp_sugar.specs.Core.{core_of}
use Rattle.sp_sugar.specs.Early.{bounds_of, is_early, registers_for, counters_of, stage_of, early_stages}
use Rattle.sp_sugar.specs.Numbers.{is_off_dram, mem_number, written_mem, written_mems}
use Rattle.sp_sugar.specs.Operations.{Code, alone, code, read_op, write_op}
use Rattle.sp_sugar.specs.Registers.{ending_of, beside, inside, registers_in}
use Rattle.sp_sugar.specs.Runs.{Run, no_run, next_code, with_stmt, inner_run}
use Rattle.sp_sugar.specs.Stages.{run_stage, first_of, Combines, nothing, folds, reduces, reduces_elements, combines, combining, combination_stage, inner_node, last_stages, style_of, outer_node, body_node, stages, node}
use Rattle.sp_sugar.specs.Uses.{Ending, no_more, in_last_run, in_combination}
use Rattle.sp_sugar.specs.Values.{Sources, no_sources, in_register, with_state}
use Rattle.sp_sugar.proofs.Cores.{contains_count, port_is}
use Rattle.sp_sugar.proofs.NumberLemmas.{written_at}
use Rattle.sp_sugar.proofs.Owners.{declared_is, off_dram}
use Rattle.sp_lane_rules.proofs.UnrolledGivens.{append_none}
use Rattle.sp_lane_cores.proofs.LanedEarlier.{run_good, early_good}
use Rattle.sp_lane_cores.proofs.LanedNaming.{SourcesHave, ValuesHave, RegisterHas, stmt_have, changed_have, InRange, Declared, declared_front, declared_back, range_after}
use Rattle.sp_lane_cores.proofs.LanedParting.{first_has, range_loops}
use Rattle.sp_lane_groups.proofs.FirstBodies.{Late, inner_resets}
use Rattle.sp_lane_groups.proofs.FirstLists.{none_waits}

module _ (p : PlainProgram) (counters : ℕ) (core : PlainCore) (wide : length (written_mems p.mems) ≤ length core.mems)
    (declared : (m : ℕ) → m < length p.mems → is_off_dram (mem p.mems m) ≡ true → core_mem core (mem_number p.mems m) ≡ written_mem (mem p.mems m)) where
  -- where nothing is owned nothing waits
  owns_none : (ops : List PlainOp) → ResetsFirst (waits_in core []) ops
  owns_none ops = none_waits ops (waits_in core []) (λ m w. true≢false (sym w))

  good : (ops : List PlainOp) (rest : PlainStages) → StagesResetFirst core rest → StagesResetFirst core (stage_of ops rest)
  good ops rest h = (owns_none ops, h)

  after_run : (ops : List PlainOp) (rest : PlainStages) → StagesResetFirst core rest → StagesResetFirst core (run_stage ops rest)
  after_run ops rest h = run_good (λ xs. StagesResetFirst core xs) good ops rest h

  comb_resets : (x : Code) (c : Combines) → StagesResetFirst core (combination_stage p.mems counters x c)
  comb_resets x c = (owns_none (x.ops ++ combining p.mems counters (0 + length x.ops) x.word c), tt)

  last_resets : (run : Run) (n : ℕ) (ending : Ending) (c : Combines) → StagesResetFirst core (last_stages p.mems counters run n ending c)
  last_resets run n no_more nothing = after_run run.ops no_stage tt
  last_resets run n no_more (folds acc comb e) = after_run run.ops no_stage tt
  last_resets run n no_more (reduces acc begun comb e) = after_run run.ops no_stage tt
  last_resets run n no_more (reduces_elements part acc begun comb) = after_run run.ops _ (owns_none _, tt)
  last_resets run n (in_combination x) nothing = after_run run.ops _ (comb_resets (code p.mems run.values.elsewhere 0 x) nothing)
  last_resets run n (in_combination x) (folds acc comb e) = after_run run.ops _ (comb_resets (code p.mems run.values.elsewhere 0 x) (folds acc comb e))
  last_resets run n (in_combination x) (reduces acc begun comb e) = after_run run.ops _ (comb_resets (code p.mems run.values.elsewhere 0 x) (reduces acc begun comb e))
  last_resets run n (in_combination x) (reduces_elements part acc begun comb) = after_run run.ops _ (owns_none _, tt)
  last_resets run n (in_last_run x) nothing = after_run (run.ops ++ (next_code p.mems run x).ops ++ write_op (type_of x) n ((next_code p.mems run x).word ∷ []) ∷ []) (combination_stage p.mems counters (alone 0 (read_op (type_of x) n [])) nothing) (comb_resets (alone 0 (read_op (type_of x) n [])) nothing)
  last_resets run n (in_last_run x) (folds acc comb e) = after_run (run.ops ++ (next_code p.mems run x).ops ++ write_op (type_of x) n ((next_code p.mems run x).word ∷ []) ∷ []) (combination_stage p.mems counters (alone 0 (read_op (type_of x) n [])) (folds acc comb e)) (comb_resets (alone 0 (read_op (type_of x) n [])) (folds acc comb e))
  last_resets run n (in_last_run x) (reduces acc begun comb e) = after_run (run.ops ++ (next_code p.mems run x).ops ++ write_op (type_of x) n ((next_code p.mems run x).word ∷ []) ∷ []) (combination_stage p.mems counters (alone 0 (read_op (type_of x) n [])) (reduces acc begun comb e)) (comb_resets (alone 0 (read_op (type_of x) n [])) (reduces acc begun comb e))
  last_resets run n (in_last_run x) (reduces_elements part acc begun comb) = after_run run.ops _ (owns_none _, tt)

  either_resets : (b : Bool) (x y : PlainNode) → BodiesResetFirst core x → BodiesResetFirst core y → BodiesResetFirst core (cond b x y)
  either_resets true x y h k = h
  either_resets false x y h k = k

  -- an inner body, and one that may have stages
  module _ (scope : Scope) (sources : Sources) (ran : InRange p scope) (have : SourcesHave (Late p core wide) sources) (loops : List PlainCounter) (body : PlainStmts) (d : Declared p (mems_declared body)) (typed : BodyTyped p scope body) where
    abbrev with_more : (more : List PlainOp) → ResetsFirst (waits_in core (map (mem_number p.mems) (own_mems body))) ((inner_run p.mems (no_run sources) body).ops ++ more)
    with_more more = inner_resets p core wide declared body scope sources ran d typed have more

    combined_resets : (c : Combines) (x : Code) → ResetsFirst (waits_in core (map (mem_number p.mems) (own_mems body)))
        ((inner_run p.mems (no_run sources) body).ops ++ x.ops ++ combining p.mems counters (length (inner_run p.mems (no_run sources) body).ops + length x.ops) x.word c)
    combined_resets c x =
        let ops : List PlainOp = (inner_run p.mems (no_run sources) body).ops in
        let more : List PlainOp = combining p.mems counters (length ops + length x.ops) x.word c in
        subst (ResetsFirst (waits_in core (map (mem_number p.mems) (own_mems body)))) (sym (append_assoc ops x.ops more)) (with_more (x.ops ++ more))

    inner_node_resets : (c : Combines) → BodiesResetFirst core (inner_node p.mems counters sources loops body c)
    inner_node_resets nothing = subst (ResetsFirst (waits_in core (map (mem_number p.mems) (own_mems body)))) (append_none (inner_run p.mems (no_run sources) body).ops) (with_more [])
    inner_node_resets (reduces_elements part acc begun comb) = subst (ResetsFirst (waits_in core (map (mem_number p.mems) (own_mems body)))) (append_none (inner_run p.mems (no_run sources) body).ops) (with_more [])
    inner_node_resets (folds acc comb e) = combined_resets (folds acc comb e) (next_code p.mems (inner_run p.mems (no_run sources) body) e)
    inner_node_resets (reduces acc begun comb e) = combined_resets (reduces acc begun comb e) (next_code p.mems (inner_run p.mems (no_run sources) body) e)

    body_node_resets : (n : ℕ) (style : Style) (ending : Ending) (c : Combines) (all : PlainStages) → StagesResetFirst core all → BodiesResetFirst core (body_node p.mems counters sources n loops style body ending c all)
    body_node_resets n style ending c all h = either_resets (is_inner body) (inner_node p.mems counters sources loops body c) (outer_node p.mems counters n loops style body ending all) (inner_node_resets c) h

  late_more : (l : List core_tree.PlainMem) (n : ℕ) → Late p core wide n → RegisterHas (Late p core wide) (first_of n l)
  late_more l n le = first_has (Late p core wide) n l le

  mutual
    unfolding stages node

    stages_reset : (scope : Scope) (run : Run) (n : ℕ) (body : PlainStmts) (ending : Ending) (c : Combines) → InRange p scope → Declared p (mems_declared body) → Late p core wide n → ValuesHave (Late p core wide) run.values → BodyTyped p scope body
        → StagesResetFirst core (stages p.mems counters run n body ending c)
    stages_reset scope run n no_stmt ending c ran d le have typed = last_resets run n ending c
    stages_reset scope run n (more_stmt (stmt place (declare m)) rest) ending c ran d le have typed =
        let regs : List core_tree.PlainMem = beside (declare m) rest ending in
        stages_reset (after scope (declare m)) (with_stmt p.mems false (first_of n regs) run (declare m)) (n + length regs) rest ending c (range_after p scope (declare m) ran (declared_front p (mems_in (declare m)) (mems_declared rest) d)) (declared_back p (mems_in (declare m)) (mems_declared rest) d)
        (omega (arith, le)) (stmt_have (Late p core wide) p.mems false (first_of n regs) run (declare m) have (late_more regs n le)) typed.1
    stages_reset scope run n (more_stmt (stmt place (name v x)) rest) ending c ran d le have typed =
        let regs : List core_tree.PlainMem = beside (name v x) rest ending in
        stages_reset (after scope (name v x)) (with_stmt p.mems false (first_of n regs) run (name v x)) (n + length regs) rest ending c (range_after p scope (name v x) ran (declared_front p (mems_in (name v x)) (mems_declared rest) d)) (declared_back p (mems_in (name v x)) (mems_declared rest) d)
        (omega (arith, le)) (stmt_have (Late p core wide) p.mems false (first_of n regs) run (name v x) have (late_more regs n le)) typed.1
    stages_reset scope run n (more_stmt (stmt place (set_reg m x)) rest) ending c ran d le have typed =
        let regs : List core_tree.PlainMem = beside (set_reg m x) rest ending in
        stages_reset (after scope (set_reg m x)) (with_stmt p.mems false (first_of n regs) run (set_reg m x)) (n + length regs) rest ending c (range_after p scope (set_reg m x) ran (declared_front p (mems_in (set_reg m x)) (mems_declared rest) d)) (declared_back p (mems_in (set_reg m x)) (mems_declared rest) d)
        (omega (arith, le)) (stmt_have (Late p core wide) p.mems false (first_of n regs) run (set_reg m x) have (late_more regs n le)) typed.1
    stages_reset scope run n (more_stmt (stmt place (set_out m x)) rest) ending c ran d le have typed =
        let regs : List core_tree.PlainMem = beside (set_out m x) rest ending in
        stages_reset (after scope (set_out m x)) (with_stmt p.mems false (first_of n regs) run (set_out m x)) (n + length regs) rest ending c (range_after p scope (set_out m x) ran (declared_front p (mems_in (set_out m x)) (mems_declared rest) d)) (declared_back p (mems_in (set_out m x)) (mems_declared rest) d)
        (omega (arith, le)) (stmt_have (Late p core wide) p.mems false (first_of n regs) run (set_out m x) have (late_more regs n le)) typed.1
    stages_reset scope run n (more_stmt (stmt place (set_sram m xs x)) rest) ending c ran d le have typed =
        let regs : List core_tree.PlainMem = beside (set_sram m xs x) rest ending in
        stages_reset (after scope (set_sram m xs x)) (with_stmt p.mems false (first_of n regs) run (set_sram m xs x)) (n + length regs) rest ending c (range_after p scope (set_sram m xs x) ran (declared_front p (mems_in (set_sram m xs x)) (mems_declared rest) d)) (declared_back p (mems_in (set_sram m xs x)) (mems_declared rest) d)
        (omega (arith, le)) (stmt_have (Late p core wide) p.mems false (first_of n regs) run (set_sram m xs x) have (late_more regs n le)) typed.1
    stages_reset scope run n (more_stmt (stmt place (enq m x)) rest) ending c ran d le have typed =
        let regs : List core_tree.PlainMem = beside (enq m x) rest ending in
        stages_reset (after scope (enq m x)) (with_stmt p.mems false (first_of n regs) run (enq m x)) (n + length regs) rest ending c (range_after p scope (enq m x) ran (declared_front p (mems_in (enq m x)) (mems_declared rest) d)) (declared_back p (mems_in (enq m x)) (mems_declared rest) d)
        (omega (arith, le)) (stmt_have (Late p core wide) p.mems false (first_of n regs) run (enq m x) have (late_more regs n le)) typed.1
    stages_reset scope run n (more_stmt (stmt place (load_sram sram dram spans)) rest) ending c ran d le have typed =
        let b : ℕ = n + length (beside (load_sram sram dram spans) rest ending) in
        let m : ℕ = b + length (inside (load_sram sram dram spans)) in
        let all : PlainStages = more_stage 0 0 false (node p.mems counters run.values.elsewhere n b (load_sram sram dram spans)) (stages p.mems counters (no_run run.values.elsewhere) m rest ending c) in
        after_run run.ops (early_stages p.mems run.values.elsewhere n (load_sram sram dram spans) all) (early_good (λ xs. StagesResetFirst core xs) good p.mems run.values.elsewhere n (load_sram sram dram spans) all (
          node_resets scope (load_sram sram dram spans) run.values.elsewhere n b ran (declared_front p (mems_in (load_sram sram dram spans)) (mems_declared rest) d) (omega (arith, le)) have.1 typed.0,
          stages_reset scope (no_run run.values.elsewhere) m rest ending c ran (declared_back p (mems_in (load_sram sram dram spans)) (mems_declared rest) d) (omega (arith, le)) (have.1, have.1) typed.1,
        ))
    stages_reset scope run n (more_stmt (stmt place (load_line line dram spans)) rest) ending c ran d le have typed =
        let b : ℕ = n + length (beside (load_line line dram spans) rest ending) in
        let m : ℕ = b + length (inside (load_line line dram spans)) in
        let all : PlainStages = more_stage 0 0 false (node p.mems counters run.values.elsewhere n b (load_line line dram spans)) (stages p.mems counters (no_run run.values.elsewhere) m rest ending c) in
        after_run run.ops (early_stages p.mems run.values.elsewhere n (load_line line dram spans) all) (early_good (λ xs. StagesResetFirst core xs) good p.mems run.values.elsewhere n (load_line line dram spans) all (
          node_resets scope (load_line line dram spans) run.values.elsewhere n b ran (declared_front p (mems_in (load_line line dram spans)) (mems_declared rest) d) (omega (arith, le)) have.1 typed.0,
          stages_reset scope (no_run run.values.elsewhere) m rest ending c ran (declared_back p (mems_in (load_line line dram spans)) (mems_declared rest) d) (omega (arith, le)) (have.1, have.1) typed.1,
        ))
    stages_reset scope run n (more_stmt (stmt place (store dram spans sram)) rest) ending c ran d le have typed =
        let b : ℕ = n + length (beside (store dram spans sram) rest ending) in
        let m : ℕ = b + length (inside (store dram spans sram)) in
        let all : PlainStages = more_stage 0 0 false (node p.mems counters run.values.elsewhere n b (store dram spans sram)) (stages p.mems counters (no_run run.values.elsewhere) m rest ending c) in
        after_run run.ops (early_stages p.mems run.values.elsewhere n (store dram spans sram) all) (early_good (λ xs. StagesResetFirst core xs) good p.mems run.values.elsewhere n (store dram spans sram) all (
          node_resets scope (store dram spans sram) run.values.elsewhere n b ran (declared_front p (mems_in (store dram spans sram)) (mems_declared rest) d) (omega (arith, le)) have.1 typed.0,
          stages_reset scope (no_run run.values.elsewhere) m rest ending c ran (declared_back p (mems_in (store dram spans sram)) (mems_declared rest) d) (omega (arith, le)) (have.1, have.1) typed.1,
        ))
    stages_reset scope run n (more_stmt (stmt place (gather sram dram places e)) rest) ending c ran d le have typed =
        let b : ℕ = n + length (beside (gather sram dram places e) rest ending) in
        let m : ℕ = b + length (inside (gather sram dram places e)) in
        let all : PlainStages = more_stage 0 0 false (node p.mems counters run.values.elsewhere n b (gather sram dram places e)) (stages p.mems counters (no_run run.values.elsewhere) m rest ending c) in
        after_run run.ops (early_stages p.mems run.values.elsewhere n (gather sram dram places e) all) (early_good (λ xs. StagesResetFirst core xs) good p.mems run.values.elsewhere n (gather sram dram places e) all (
          node_resets scope (gather sram dram places e) run.values.elsewhere n b ran (declared_front p (mems_in (gather sram dram places e)) (mems_declared rest) d) (omega (arith, le)) have.1 typed.0,
          stages_reset scope (no_run run.values.elsewhere) m rest ending c ran (declared_back p (mems_in (gather sram dram places e)) (mems_declared rest) d) (omega (arith, le)) (have.1, have.1) typed.1,
        ))
    stages_reset scope run n (more_stmt (stmt place (scatter dram places e sram)) rest) ending c ran d le have typed =
        let b : ℕ = n + length (beside (scatter dram places e sram) rest ending) in
        let m : ℕ = b + length (inside (scatter dram places e sram)) in
        let all : PlainStages = more_stage 0 0 false (node p.mems counters run.values.elsewhere n b (scatter dram places e sram)) (stages p.mems counters (no_run run.values.elsewhere) m rest ending c) in
        after_run run.ops (early_stages p.mems run.values.elsewhere n (scatter dram places e sram) all) (early_good (λ xs. StagesResetFirst core xs) good p.mems run.values.elsewhere n (scatter dram places e sram) all (
          node_resets scope (scatter dram places e sram) run.values.elsewhere n b ran (declared_front p (mems_in (scatter dram places e sram)) (mems_declared rest) d) (omega (arith, le)) have.1 typed.0,
          stages_reset scope (no_run run.values.elsewhere) m rest ending c ran (declared_back p (mems_in (scatter dram places e sram)) (mems_declared rest) d) (omega (arith, le)) (have.1, have.1) typed.1,
        ))
    stages_reset scope run n (more_stmt (stmt place (block style body)) rest) ending c ran d le have typed =
        let b : ℕ = n + length (beside (block style body) rest ending) in
        let m : ℕ = b + length (inside (block style body)) in
        let all : PlainStages = more_stage 0 0 false (node p.mems counters run.values.elsewhere n b (block style body)) (stages p.mems counters (no_run run.values.elsewhere) m rest ending c) in
        after_run run.ops (early_stages p.mems run.values.elsewhere n (block style body) all) (early_good (λ xs. StagesResetFirst core xs) good p.mems run.values.elsewhere n (block style body) all (
          node_resets scope (block style body) run.values.elsewhere n b ran (declared_front p (mems_in (block style body)) (mems_declared rest) d) (omega (arith, le)) have.1 typed.0,
          stages_reset scope (no_run run.values.elsewhere) m rest ending c ran (declared_back p (mems_in (block style body)) (mems_declared rest) d) (omega (arith, le)) (have.1, have.1) typed.1,
        ))
    stages_reset scope run n (more_stmt (stmt place (foreach style loops body)) rest) ending c ran d le have typed =
        let b : ℕ = n + length (beside (foreach style loops body) rest ending) in
        let m : ℕ = b + length (inside (foreach style loops body)) in
        let all : PlainStages = more_stage 0 0 false (node p.mems counters run.values.elsewhere n b (foreach style loops body)) (stages p.mems counters (no_run run.values.elsewhere) m rest ending c) in
        after_run run.ops (early_stages p.mems run.values.elsewhere n (foreach style loops body) all) (early_good (λ xs. StagesResetFirst core xs) good p.mems run.values.elsewhere n (foreach style loops body) all (
          node_resets scope (foreach style loops body) run.values.elsewhere n b ran (declared_front p (mems_in (foreach style loops body)) (mems_declared rest) d) (omega (arith, le)) have.1 typed.0,
          stages_reset scope (no_run run.values.elsewhere) m rest ending c ran (declared_back p (mems_in (foreach style loops body)) (mems_declared rest) d) (omega (arith, le)) (have.1, have.1) typed.1,
        ))
    stages_reset scope run n (more_stmt (stmt place (reduce style fold acc loops body e comb)) rest) ending c ran d le have typed =
        let b : ℕ = n + length (beside (reduce style fold acc loops body e comb) rest ending) in
        let m : ℕ = b + length (inside (reduce style fold acc loops body e comb)) in
        let all : PlainStages = more_stage 0 0 false (node p.mems counters run.values.elsewhere n b (reduce style fold acc loops body e comb)) (stages p.mems counters (no_run run.values.elsewhere) m rest ending c) in
        after_run run.ops (early_stages p.mems run.values.elsewhere n (reduce style fold acc loops body e comb) all) (early_good (λ xs. StagesResetFirst core xs) good p.mems run.values.elsewhere n (reduce style fold acc loops body e comb) all (
          node_resets scope (reduce style fold acc loops body e comb) run.values.elsewhere n b ran (declared_front p (mems_in (reduce style fold acc loops body e comb)) (mems_declared rest) d) (omega (arith, le)) have.1 typed.0,
          stages_reset scope (no_run run.values.elsewhere) m rest ending c ran (declared_back p (mems_in (reduce style fold acc loops body e comb)) (mems_declared rest) d) (omega (arith, le)) (have.1, have.1) typed.1,
        ))
    stages_reset scope run n (more_stmt (stmt place (mem_reduce style acc loops body part comb)) rest) ending c ran d le have typed =
        let b : ℕ = n + length (beside (mem_reduce style acc loops body part comb) rest ending) in
        let m : ℕ = b + length (inside (mem_reduce style acc loops body part comb)) in
        let all : PlainStages = more_stage 0 0 false (node p.mems counters run.values.elsewhere n b (mem_reduce style acc loops body part comb)) (stages p.mems counters (no_run run.values.elsewhere) m rest ending c) in
        after_run run.ops (early_stages p.mems run.values.elsewhere n (mem_reduce style acc loops body part comb) all) (early_good (λ xs. StagesResetFirst core xs) good p.mems run.values.elsewhere n (mem_reduce style acc loops body part comb) all (
          node_resets scope (mem_reduce style acc loops body part comb) run.values.elsewhere n b ran (declared_front p (mems_in (mem_reduce style acc loops body part comb)) (mems_declared rest) d) (omega (arith, le)) have.1 typed.0,
          stages_reset scope (no_run run.values.elsewhere) m rest ending c ran (declared_back p (mems_in (mem_reduce style acc loops body part comb)) (mems_declared rest) d) (omega (arith, le)) (have.1, have.1) typed.1,
        ))
    stages_reset scope run n (more_stmt (stmt place (fsm start tested test state body last next)) rest) ending c ran d le have typed =
        let b : ℕ = n + length (beside (fsm start tested test state body last next) rest ending) in
        let m : ℕ = b + length (inside (fsm start tested test state body last next)) in
        let all : PlainStages = more_stage 0 0 false (node p.mems counters run.values.elsewhere n b (fsm start tested test state body last next)) (stages p.mems counters (no_run run.values.elsewhere) m rest ending c) in
        after_run run.ops (early_stages p.mems run.values.elsewhere n (fsm start tested test state body last next) all) (early_good (λ xs. StagesResetFirst core xs) good p.mems run.values.elsewhere n (fsm start tested test state body last next) all (
          node_resets scope (fsm start tested test state body last next) run.values.elsewhere n b ran (declared_front p (mems_in (fsm start tested test state body last next)) (mems_declared rest) d) (omega (arith, le)) have.1 typed.0,
          stages_reset scope (no_run run.values.elsewhere) m rest ending c ran (declared_back p (mems_in (fsm start tested test state body last next)) (mems_declared rest) d) (omega (arith, le)) (have.1, have.1) typed.1,
        ))
    stages_reset scope run n (more_stmt (stmt place (branch test first second)) rest) ending c ran d le have typed =
        let b : ℕ = n + length (beside (branch test first second) rest ending) in
        let m : ℕ = b + length (inside (branch test first second)) in
        let all : PlainStages = more_stage 0 0 false (node p.mems counters run.values.elsewhere n b (branch test first second)) (stages p.mems counters (no_run run.values.elsewhere) m rest ending c) in
        after_run run.ops (early_stages p.mems run.values.elsewhere n (branch test first second) all) (early_good (λ xs. StagesResetFirst core xs) good p.mems run.values.elsewhere n (branch test first second) all (
          node_resets scope (branch test first second) run.values.elsewhere n b ran (declared_front p (mems_in (branch test first second)) (mems_declared rest) d) (omega (arith, le)) have.1 typed.0,
          stages_reset scope (no_run run.values.elsewhere) m rest ending c ran (declared_back p (mems_in (branch test first second)) (mems_declared rest) d) (omega (arith, le)) (have.1, have.1) typed.1,
        ))

    node_resets : (scope : Scope) (k : PlainStmtKind) (sources : Sources) (b n : ℕ) → InRange p scope → Declared p (mems_in k) → Late p core wide n → SourcesHave (Late p core wide) sources → StmtTyped p scope k → BodiesResetFirst core (node p.mems counters sources b n k)
    node_resets scope (load_sram sram dram spans) sources b n ran d le have typed = either_resets (slice_lanes spans == 1) _ _ tt tt
    node_resets scope (load_line line dram spans) sources b n ran d le have typed = either_resets (slice_lanes spans == 1) _ _ tt tt
    node_resets scope (store dram spans sram) sources b n ran d le have typed = either_resets (slice_lanes spans == 1) _ _ tt tt
    node_resets scope (gather sram dram places e) sources b n ran d le have typed = tt
    node_resets scope (scatter dram places e sram) sources b n ran d le have typed = tt
    node_resets scope (block style body) sources b n ran d le have typed =
        body_node_resets scope sources ran have [] body d typed n (style_of p.mems counters style body) no_more nothing (stages p.mems counters (no_run sources) n body no_more nothing)
        (stages_reset scope (no_run sources) n body no_more nothing ran d le (have, have) typed)
    node_resets scope (foreach style loops body) sources b n ran d le have typed =
        let inner_scope : Scope = with_counters scope loops in
        body_node_resets inner_scope sources (range_loops p scope loops ran) have (counters_of p.mems sources b loops) body d typed.2 n style no_more nothing (stages p.mems counters (no_run sources) n body no_more nothing)
        (stages_reset inner_scope (no_run sources) n body no_more nothing (range_loops p scope loops ran) d le (have, have) typed.2)
    node_resets scope (reduce style fold acc loops body e comb) sources b n ran d le have typed =
        let inner_scope : Scope = with_counters scope loops in
        let c : Combines = combines p.mems fold acc (b + length (registers_for is_early (bounds_of loops))) comb e in
        body_node_resets inner_scope sources (range_loops p scope loops ran) have (counters_of p.mems sources b loops) body d typed.2 n style (ending_of loops e) c (stages p.mems counters (no_run sources) n body (ending_of loops e) c)
        (stages_reset inner_scope (no_run sources) n body (ending_of loops e) c (range_loops p scope loops ran) d le (have, have) typed.2)
    node_resets scope (mem_reduce style acc loops body part comb) sources b n ran d le have typed =
        let c : Combines = reduces_elements part (mem_number p.mems acc) (b + length (registers_for is_early (bounds_of loops))) comb in
        stages_reset (with_counters scope loops) (no_run sources) n body no_more c (range_loops p scope loops ran) d le (have, have) typed.2
    node_resets scope (fsm start tested test state body last next) sources b n ran d le have typed =
        let kept : Sources = with_state sources tested state last n in
        let P : ℕ → Type 0 = Late p core wide in
        let known : SourcesHave (Late p core wide) kept = changed_have P _ last (in_register n) (changed_have P _ state (in_register n) (changed_have P sources tested (in_register n) have le) le) le in
        body_node_resets (with_val scope state (type_of start)) kept ran known [] body d typed.4 (suc n) Pipe no_more nothing (stages p.mems counters (no_run kept) (suc n) body no_more nothing)
        (stages_reset (with_val scope state (type_of start)) (no_run kept) (suc n) body no_more nothing ran d (omega (arith, le)) (known, known) typed.4)
    node_resets scope (branch test first second) sources b n ran d le have typed =
        let m : ℕ = n + length (registers_in first no_more) in (
          body_node_resets scope sources ran have [] first (declared_front p (mems_declared first) (mems_declared second) d) typed.1 n Pipe no_more nothing (stages p.mems counters (no_run sources) n first no_more nothing)
              (stages_reset scope (no_run sources) n first no_more nothing ran (declared_front p (mems_declared first) (mems_declared second) d) le (have, have) typed.1),
          body_node_resets scope sources ran have [] second (declared_back p (mems_declared first) (mems_declared second) d) typed.2 m Pipe no_more nothing (stages p.mems counters (no_run sources) m second no_more nothing)
              (stages_reset scope (no_run sources) m second no_more nothing ran (declared_back p (mems_declared first) (mems_declared second) d) (omega (arith, le)) (have, have) typed.2),
        )
    node_resets scope (declare m) sources b n ran d le have typed = tt
    node_resets scope (name v x) sources b n ran d le have typed = tt
    node_resets scope (set_reg m x) sources b n ran d le have typed = tt
    node_resets scope (set_out m x) sources b n ran d le have typed = tt
    node_resets scope (set_sram m xs x) sources b n ran d le have typed = tt
    node_resets scope (enq m x) sources b n ran d le have typed = tt

pub reset_first : (p : PlainProgram) → IsProgram p → BodiesResetFirst (core_of p) (core_of p).root
unfolding core_of
reset_first p h =
    let n : ℕ = length (written_mems p.mems) in
    let sum = length-append (written_mems p.mems) (registers_in p.body no_more) in
    let wide : length (written_mems p.mems) ≤ length (core_of p).mems = omega (arith, sum) in
    let declared : (m : ℕ) → m < length p.mems → is_off_dram (mem p.mems m) ≡ true → core_mem (core_of p) (mem_number p.mems m) ≡ written_mem (mem p.mems m) = λ m lt off. written_at p.mems (registers_in p.body no_more) m lt off in
    let ran : InRange p (outer_scope p) = λ m c. (port_is p h m c).0 in
    let d : Declared p (mems_declared p.body) = λ m c. let is = declared_is p h m (contains_count (mems_declared p.body) m c) in (is.0, off_dram p h m is.1) in
    body_node_resets p (length p.counters) (core_of p) wide declared (outer_scope p) no_sources ran (λ v. tt) [] p.body d h.typed n Pipe no_more nothing (stages p.mems (length p.counters) (no_run no_sources) n p.body no_more nothing)
    (stages_reset p (length p.counters) (core_of p) wide declared (outer_scope p) (no_run no_sources) n p.body no_more nothing ran d (omega arith) ((λ v. tt), (λ v. tt)) h.typed)
