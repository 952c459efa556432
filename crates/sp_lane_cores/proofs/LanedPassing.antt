-- What the nodes and the stages of a core name.
use Rattle.std.proofs.Common.{ℕ, suc, ◌+◌, ◌==◌, Bool, true, false, cond, List, [], ◌∷◌, ◌++◌, length, map, refl, arith}
use Rattle.std.specs.Prelude.{IsTrue}
use Rattle.sp_words.specs.declared.kind.Kind.TheVariants.{Reg, Sram, LineBuf}
use Rattle.sp_words.specs.declared.kind.Style.{Style}
use Rattle.sp_words.specs.declared.kind.Style.TheVariants.{Pipe}
use Rattle.sp_words.specs.Types.{int_type}
use Rattle.sp_tree.specs.declared.statement.Comb.{Comb}
use Rattle.sp_tree.specs.Expressions.{mem, dims}
use Rattle.sp_tree.specs.Footprint.{Names, StmtKindNames, BodyNames}
use Rattle.sp_tree.specs.PlainExpression.{PlainExpr, type_of}
use Rattle.sp_tree.specs.PlainProgram.{PlainProgram}
use Rattle.sp_tree.specs.PlainStatement as tree
use Rattle.sp_tree.specs.PlainStatement.{PlainSpan, single, range, PlainStmtKind, PlainStmts, stmt, declare, name, set_reg, set_out, set_sram, enq, load_sram, load_line, store, gather, scatter, block, foreach, reduce, mem_reduce, fsm, branch, no_stmt, more_stmt}
use Rattle.sp_tree.specs.Structure.{mems_declared, mems_in, own_mems, is_inner, slice_lanes}
use Rattle.sp_tree.specs.Typing.{Scope, BodyTyped, StmtTyped, after, after_all, with_counters, with_val}
use Rattle.sp_core.specs.Footprint.{CountersName, NodeNames, StagesName}
use Rattle.sp_core.specs.PlainCore.{PlainCounter, PlainNode, PlainStages, PlainCore, no_stage, more_stage}
use Rattle.sp_sugar.specs.Early.{bounds_of, is_early, is_early_part, registers_for, counters_of, early_stages}
use Rattle.sp_sugar.specs.Numbers.{mem_number, dram_number}
use Rattle.sp_sugar.specs.Operations.{Code, alone, read_op, write_op, code}
use Rattle.sp_sugar.specs.Registers.{ending_of, beside, inside, registers_in, owned_registers}
use Rattle.sp_sugar.specs.Runs.{Run, no_run, next_code, with_stmt, inner_run}
use Rattle.sp_sugar.specs.Stages.{run_stage, first_of, Combines, nothing, folds, reduces, reduces_elements, combines, combination_stage, inner_node, last_stages, style_of, outer_node, body_node, stages, node}
use Rattle.sp_sugar.specs.Uses.{Ending, no_more, in_last_run, in_combination}
use Rattle.sp_sugar.specs.Values.{Sources, in_register, with_state}
use Rattle.sp_sugar.proofs.Entering.{own_declared}
use Rattle.sp_sugar.proofs.NodeSteps.{ending_is}
use Rattle.sp_lane_cores.proofs.LanedNaming.{SourcesHave, changed_have, Test, InRange, Declared, declared_front, declared_back, range_after, is_chip, chip_passes, names_pass, Pass, pass_append, IsPassed, code_passes, RunPasses, next_passes, stmt_passes, inner_passes}
use Rattle.sp_lane_cores.proofs.LanedParting.{first_has, range_loops, range_all, Regs, regs_more, naming, all_append, owned_pass, own_pass, bound_parts, slice_parts, run_pass, list_passes, from_passes, loops_pass, spans_pass, early_pass, CombPasses, combination_passes, element_passes}

module _ (p : PlainProgram) (counters : ℕ) (core : PlainCore) (t : Test p core) where
  -- the word that a body's end hands on
  abbrev pub EndPasses : Ending → Type 0
  EndPasses no_more = Unit {0}
  EndPasses (in_last_run e) = Names (is_chip p core t) e
  EndPasses (in_combination e) = Names (is_chip p core t) e

  pub ending_passes : (loops : List tree.PlainCounter) (e : PlainExpr) → Names (is_chip p core t) e → EndPasses (ending_of loops e)
  ending_passes loops e h = ending_is EndPasses loops e h h

  pub combines_pass : (fold : Bool) (acc begun : ℕ) (comb : Comb) (e : PlainExpr) → IsTrue (is_chip p core t acc) → IsPassed p core t begun → Names (is_chip p core t) e → CombPasses p core t (combines p.mems fold acc begun comb e)
  combines_pass true acc begun comb e h k l = (h, l)
  combines_pass false acc begun comb e h k l = (h, k, l)

  -- at the beginning of a body
  pub begins : (sources : Sources) → SourcesHave (IsPassed p core t) sources → RunPasses p core t (no_run sources)
  begins sources h = record { ops = tt; values = (h, h) }

  pub last_run : (run : Run) (n : ℕ) (e : PlainExpr) → RunPasses p core t run → Names (is_chip p core t) e → IsPassed p core t n → Pass p core t (run.ops ++ (next_code p.mems run e).ops ++ write_op (type_of e) n ((next_code p.mems run e).word ∷ []) ∷ [])
  last_run run n e r o h =
      let x : Code = next_code p.mems run e in
      pass_append p core t (run.ops ++ x.ops) (write_op (type_of e) n (x.word ∷ []) ∷ []) (pass_append p core t run.ops x.ops r.ops (next_passes p core t run e r o)) (h, tt)

  -- the last run, and its end
  pub last_run_passes : (run : Run) (n : ℕ) (e : PlainExpr) (rest : PlainStages) → RunPasses p core t run → Names (is_chip p core t) e → IsPassed p core t n → StagesName core t.is rest
      → StagesName core t.is (run_stage (run.ops ++ (next_code p.mems run e).ops ++ write_op (type_of e) n ((next_code p.mems run e).word ∷ []) ∷ []) rest)
  last_run_passes run n e rest r o h k = run_pass p core t (naming p core t) _ rest (last_run run n e r o h) k

  comb_stage : (x : Code) (c : Combines) → Pass p core t x.ops → CombPasses p core t c → StagesName core t.is (combination_stage p.mems counters x c)
  comb_stage x c h k = (combination_passes p core t counters [] x c [] [] tt h k tt tt, tt)

  last_passes : (run : Run) (n : ℕ) (ending : Ending) (c : Combines) → RunPasses p core t run → Regs p core t n → EndPasses ending → CombPasses p core t c → StagesName core t.is (last_stages p.mems counters run n ending c)
  last_passes run n no_more nothing r regs en h = run_pass p core t (naming p core t) run.ops no_stage r.ops tt
  last_passes run n no_more (folds acc comb e) r regs en h = run_pass p core t (naming p core t) run.ops no_stage r.ops tt
  last_passes run n no_more (reduces acc begun comb e) r regs en h = run_pass p core t (naming p core t) run.ops no_stage r.ops tt
  last_passes run n no_more (reduces_elements part acc begun comb) r regs en h = run_pass p core t (naming p core t) run.ops _ r.ops (element_passes p core t counters (dims p.mems part) part acc begun (mem p.mems part).ty comb h.0 h.1 h.2, tt)
  last_passes run n (in_combination x) nothing r regs en h = run_pass p core t (naming p core t) run.ops _ r.ops (comb_stage (code p.mems run.values.elsewhere 0 x) nothing (code_passes p core t run.values.elsewhere r.values.1 x 0 en) h)
  last_passes run n (in_combination x) (folds acc comb e) r regs en h = run_pass p core t (naming p core t) run.ops _ r.ops (comb_stage (code p.mems run.values.elsewhere 0 x) (folds acc comb e) (code_passes p core t run.values.elsewhere r.values.1 x 0 en) h)
  last_passes run n (in_combination x) (reduces acc begun comb e) r regs en h = run_pass p core t (naming p core t) run.ops _ r.ops (comb_stage (code p.mems run.values.elsewhere 0 x) (reduces acc begun comb e) (code_passes p core t run.values.elsewhere r.values.1 x 0 en) h)
  last_passes run n (in_combination x) (reduces_elements part acc begun comb) r regs en h = run_pass p core t (naming p core t) run.ops _ r.ops (element_passes p core t counters (dims p.mems part) part acc begun (mem p.mems part).ty comb h.0 h.1 h.2, tt)
  last_passes run n (in_last_run x) nothing r regs en h = last_run_passes run n x _ r en (regs n (omega arith)) (comb_stage (alone 0 (read_op (type_of x) n [])) nothing (regs n (omega arith), tt) h)
  last_passes run n (in_last_run x) (folds acc comb e) r regs en h = last_run_passes run n x _ r en (regs n (omega arith)) (comb_stage (alone 0 (read_op (type_of x) n [])) (folds acc comb e) (regs n (omega arith), tt) h)
  last_passes run n (in_last_run x) (reduces acc begun comb e) r regs en h = last_run_passes run n x _ r en (regs n (omega arith)) (comb_stage (alone 0 (read_op (type_of x) n [])) (reduces acc begun comb e) (regs n (omega arith), tt) h)
  last_passes run n (in_last_run x) (reduces_elements part acc begun comb) r regs en h = run_pass p core t (naming p core t) run.ops _ r.ops (element_passes p core t counters (dims p.mems part) part acc begun (mem p.mems part).ty comb h.0 h.1 h.2, tt)

  inner_node_passes : (sources : Sources) → SourcesHave (IsPassed p core t) sources → (scope : Scope) (loops : List PlainCounter) (body : PlainStmts) (c : Combines) → InRange p scope → Declared p (mems_declared body) → BodyTyped p scope body → BodyNames t.ok body → CombPasses p core t c → CountersName core t.is loops
      → NodeNames core t.is (inner_node p.mems counters sources loops body c)
  inner_node_passes sources have scope loops body nothing ran d typed o h k = (k, own_pass p core t body o d, (inner_passes p core t (no_run sources) scope body ran d (begins sources have) typed o).ops)
  inner_node_passes sources have scope loops body (folds acc comb e) ran d typed o h k =
      let run : Run = inner_run p.mems (no_run sources) body in
      let r : RunPasses p core t run = inner_passes p core t (no_run sources) scope body ran d (begins sources have) typed o in
      combination_passes p core t counters run.ops (next_code p.mems run e) (folds acc comb e) loops (map (mem_number p.mems) (own_mems body)) r.ops (next_passes p core t run e r h.1) h k (own_pass p core t body o d)
  inner_node_passes sources have scope loops body (reduces acc begun comb e) ran d typed o h k =
      let run : Run = inner_run p.mems (no_run sources) body in
      let r : RunPasses p core t run = inner_passes p core t (no_run sources) scope body ran d (begins sources have) typed o in
      combination_passes p core t counters run.ops (next_code p.mems run e) (reduces acc begun comb e) loops (map (mem_number p.mems) (own_mems body)) r.ops (next_passes p core t run e r h.2) h k (own_pass p core t body o d)
  inner_node_passes sources have scope loops body (reduces_elements part acc begun comb) ran d typed o h k = (k, own_pass p core t body o d, (inner_passes p core t (no_run sources) scope body ran d (begins sources have) typed o).ops)

  outer_passes : (n : ℕ) (loops : List PlainCounter) (style : Style) (body : PlainStmts) (ending : Ending) (all : PlainStages) → Declared p (mems_declared body) → BodyNames t.ok body → Regs p core t n → CountersName core t.is loops → StagesName core t.is all
      → NodeNames core t.is (outer_node p.mems counters n loops style body ending all)
  outer_passes n loops style body ending all d o regs k l =
      (k, all_append p core t (map (mem_number p.mems) (own_mems body)) (owned_registers n body ending) (own_pass p core t body o d) (owned_pass p core t n body ending regs), l)

  body_passes : (sources : Sources) → SourcesHave (IsPassed p core t) sources → (n : ℕ) (scope : Scope) (loops : List PlainCounter) (style : Style) (body : PlainStmts) (ending : Ending) (c : Combines) (all : PlainStages) → InRange p scope → Declared p (mems_declared body) → BodyTyped p scope body → BodyNames t.ok body → CombPasses p core t c → Regs p core t n → CountersName core t.is loops → StagesName core t.is all
      → NodeNames core t.is (body_node p.mems counters sources n loops style body ending c all)
  body_passes sources have n scope loops style body ending c all ran d typed o h regs k l = by (is_inner body)
    where
      by : (b : Bool) → NodeNames core t.is (cond b (inner_node p.mems counters sources loops body c) (outer_node p.mems counters n loops style body ending all))
      by true = inner_node_passes sources have scope loops body c ran d typed o h k
      by false = outer_passes n loops style body ending all d o regs k l

  either_passes : (b : Bool) (x y : PlainNode) → NodeNames core t.is x → NodeNames core t.is y → NodeNames core t.is (cond b x y)
  either_passes true x y h k = h
  either_passes false x y h k = k

  -- a stage and those after it
  pub stage_passes : (run : Run) → RunPasses p core t run → (scope : Scope) → InRange p scope → (n : ℕ) (k : PlainStmtKind) (x : PlainNode) (others : PlainStages) → Regs p core t n → StmtTyped p scope k → StmtKindNames t.ok k → NodeNames core t.is x → StagesName core t.is others
      → StagesName core t.is (run_stage run.ops (early_stages p.mems run.values.elsewhere n k (more_stage 0 0 false x others)))
  stage_passes run r scope ran n k x others regs typed o h l = run_pass p core t (naming p core t) run.ops _ r.ops (early_pass p core t run.values.elsewhere r.values.1 (naming p core t) scope ran n k (more_stage 0 0 false x others) typed o regs (h, l))

  -- three names of a state
  pub state_has : (sources : Sources) (tested state last r : ℕ) → SourcesHave (IsPassed p core t) sources → IsPassed p core t r → SourcesHave (IsPassed p core t) (with_state sources tested state last r)
  state_has sources tested state last r h k =
      let P = IsPassed p core t in
      changed_have P _ last (in_register r) (changed_have P _ state (in_register r) (changed_have P sources tested (in_register r) h k) k) k

  mutual
    unfolding stages node

    pub stages_pass : (scope : Scope) (run : Run) (n : ℕ) (body : PlainStmts) (ending : Ending) (c : Combines) → InRange p scope → Declared p (mems_declared body) → RunPasses p core t run → Regs p core t n → BodyTyped p scope body → BodyNames t.ok body → EndPasses ending → CombPasses p core t c
        → StagesName core t.is (stages p.mems counters run n body ending c)
    stages_pass scope run n no_stmt ending c ran d r regs typed o en h = last_passes run n ending c r regs en h
    stages_pass scope run n (more_stmt (stmt place (declare m)) rest) ending c ran d r regs typed o en h =
        stages_pass (after scope (declare m)) (with_stmt p.mems false (first_of n (beside (declare m) rest ending)) run (declare m)) (n + length (beside (declare m) rest ending)) rest ending c (range_after p scope (declare m) ran (declared_front p (mems_in (declare m)) (mems_declared rest) d)) (declared_back p (mems_in (declare m)) (mems_declared rest) d)
        (stmt_passes p core t false (first_of n (beside (declare m) rest ending)) run scope (declare m) ran (declared_front p (mems_in (declare m)) (mems_declared rest) d) r (first_has (IsPassed p core t) n (beside (declare m) rest ending) (regs n (omega arith))) typed.0 o.0)
        (regs_more p core t n (n + length (beside (declare m) rest ending)) (omega arith) regs) typed.1 o.1 en h
    stages_pass scope run n (more_stmt (stmt place (name v x)) rest) ending c ran d r regs typed o en h =
        stages_pass (after scope (name v x)) (with_stmt p.mems false (first_of n (beside (name v x) rest ending)) run (name v x)) (n + length (beside (name v x) rest ending)) rest ending c (range_after p scope (name v x) ran (declared_front p (mems_in (name v x)) (mems_declared rest) d)) (declared_back p (mems_in (name v x)) (mems_declared rest) d)
        (stmt_passes p core t false (first_of n (beside (name v x) rest ending)) run scope (name v x) ran (declared_front p (mems_in (name v x)) (mems_declared rest) d) r (first_has (IsPassed p core t) n (beside (name v x) rest ending) (regs n (omega arith))) typed.0 o.0)
        (regs_more p core t n (n + length (beside (name v x) rest ending)) (omega arith) regs) typed.1 o.1 en h
    stages_pass scope run n (more_stmt (stmt place (set_reg m x)) rest) ending c ran d r regs typed o en h =
        stages_pass (after scope (set_reg m x)) (with_stmt p.mems false (first_of n (beside (set_reg m x) rest ending)) run (set_reg m x)) (n + length (beside (set_reg m x) rest ending)) rest ending c (range_after p scope (set_reg m x) ran (declared_front p (mems_in (set_reg m x)) (mems_declared rest) d)) (declared_back p (mems_in (set_reg m x)) (mems_declared rest) d)
        (stmt_passes p core t false (first_of n (beside (set_reg m x) rest ending)) run scope (set_reg m x) ran (declared_front p (mems_in (set_reg m x)) (mems_declared rest) d) r (first_has (IsPassed p core t) n (beside (set_reg m x) rest ending) (regs n (omega arith))) typed.0 o.0)
        (regs_more p core t n (n + length (beside (set_reg m x) rest ending)) (omega arith) regs) typed.1 o.1 en h
    stages_pass scope run n (more_stmt (stmt place (set_out m x)) rest) ending c ran d r regs typed o en h =
        stages_pass (after scope (set_out m x)) (with_stmt p.mems false (first_of n (beside (set_out m x) rest ending)) run (set_out m x)) (n + length (beside (set_out m x) rest ending)) rest ending c (range_after p scope (set_out m x) ran (declared_front p (mems_in (set_out m x)) (mems_declared rest) d)) (declared_back p (mems_in (set_out m x)) (mems_declared rest) d)
        (stmt_passes p core t false (first_of n (beside (set_out m x) rest ending)) run scope (set_out m x) ran (declared_front p (mems_in (set_out m x)) (mems_declared rest) d) r (first_has (IsPassed p core t) n (beside (set_out m x) rest ending) (regs n (omega arith))) typed.0 o.0)
        (regs_more p core t n (n + length (beside (set_out m x) rest ending)) (omega arith) regs) typed.1 o.1 en h
    stages_pass scope run n (more_stmt (stmt place (set_sram m xs x)) rest) ending c ran d r regs typed o en h =
        stages_pass (after scope (set_sram m xs x)) (with_stmt p.mems false (first_of n (beside (set_sram m xs x) rest ending)) run (set_sram m xs x)) (n + length (beside (set_sram m xs x) rest ending)) rest ending c (range_after p scope (set_sram m xs x) ran (declared_front p (mems_in (set_sram m xs x)) (mems_declared rest) d)) (declared_back p (mems_in (set_sram m xs x)) (mems_declared rest) d)
        (stmt_passes p core t false (first_of n (beside (set_sram m xs x) rest ending)) run scope (set_sram m xs x) ran (declared_front p (mems_in (set_sram m xs x)) (mems_declared rest) d) r (first_has (IsPassed p core t) n (beside (set_sram m xs x) rest ending) (regs n (omega arith))) typed.0 o.0)
        (regs_more p core t n (n + length (beside (set_sram m xs x) rest ending)) (omega arith) regs) typed.1 o.1 en h
    stages_pass scope run n (more_stmt (stmt place (enq m x)) rest) ending c ran d r regs typed o en h =
        stages_pass (after scope (enq m x)) (with_stmt p.mems false (first_of n (beside (enq m x) rest ending)) run (enq m x)) (n + length (beside (enq m x) rest ending)) rest ending c (range_after p scope (enq m x) ran (declared_front p (mems_in (enq m x)) (mems_declared rest) d)) (declared_back p (mems_in (enq m x)) (mems_declared rest) d)
        (stmt_passes p core t false (first_of n (beside (enq m x) rest ending)) run scope (enq m x) ran (declared_front p (mems_in (enq m x)) (mems_declared rest) d) r (first_has (IsPassed p core t) n (beside (enq m x) rest ending) (regs n (omega arith))) typed.0 o.0)
        (regs_more p core t n (n + length (beside (enq m x) rest ending)) (omega arith) regs) typed.1 o.1 en h
    stages_pass scope run n (more_stmt (stmt place (load_sram sram dram spans)) rest) ending c ran d r regs typed o en h =
        let b : ℕ = n + length (beside (load_sram sram dram spans) rest ending) in
        let m : ℕ = b + length (inside (load_sram sram dram spans)) in
        stage_passes run r scope ran n (load_sram sram dram spans) (node p.mems counters run.values.elsewhere n (n + length (beside (load_sram sram dram spans) rest ending)) (load_sram sram dram spans)) (stages p.mems counters (no_run run.values.elsewhere) (n + length (beside (load_sram sram dram spans) rest ending) + length (inside (load_sram sram dram spans))) rest ending c) regs typed.0 o.0
        (node_passes scope (load_sram sram dram spans) run.values.elsewhere n (n + length (beside (load_sram sram dram spans) rest ending)) r.values.1 ran (declared_front p (mems_in (load_sram sram dram spans)) (mems_declared rest) d) regs (regs_more p core t n b (omega arith) regs) typed.0 o.0)
        (stages_pass (after scope (load_sram sram dram spans)) (no_run run.values.elsewhere) (n + length (beside (load_sram sram dram spans) rest ending) + length (inside (load_sram sram dram spans))) rest ending c ran (declared_back p (mems_in (load_sram sram dram spans)) (mems_declared rest) d) (begins run.values.elsewhere r.values.1) (regs_more p core t n m (omega arith) regs) typed.1 o.1 en h)
    stages_pass scope run n (more_stmt (stmt place (load_line line dram spans)) rest) ending c ran d r regs typed o en h =
        let b : ℕ = n + length (beside (load_line line dram spans) rest ending) in
        let m : ℕ = b + length (inside (load_line line dram spans)) in
        stage_passes run r scope ran n (load_line line dram spans) (node p.mems counters run.values.elsewhere n (n + length (beside (load_line line dram spans) rest ending)) (load_line line dram spans)) (stages p.mems counters (no_run run.values.elsewhere) (n + length (beside (load_line line dram spans) rest ending) + length (inside (load_line line dram spans))) rest ending c) regs typed.0 o.0
        (node_passes scope (load_line line dram spans) run.values.elsewhere n (n + length (beside (load_line line dram spans) rest ending)) r.values.1 ran (declared_front p (mems_in (load_line line dram spans)) (mems_declared rest) d) regs (regs_more p core t n b (omega arith) regs) typed.0 o.0)
        (stages_pass (after scope (load_line line dram spans)) (no_run run.values.elsewhere) (n + length (beside (load_line line dram spans) rest ending) + length (inside (load_line line dram spans))) rest ending c ran (declared_back p (mems_in (load_line line dram spans)) (mems_declared rest) d) (begins run.values.elsewhere r.values.1) (regs_more p core t n m (omega arith) regs) typed.1 o.1 en h)
    stages_pass scope run n (more_stmt (stmt place (store dram spans sram)) rest) ending c ran d r regs typed o en h =
        let b : ℕ = n + length (beside (store dram spans sram) rest ending) in
        let m : ℕ = b + length (inside (store dram spans sram)) in
        stage_passes run r scope ran n (store dram spans sram) (node p.mems counters run.values.elsewhere n (n + length (beside (store dram spans sram) rest ending)) (store dram spans sram)) (stages p.mems counters (no_run run.values.elsewhere) (n + length (beside (store dram spans sram) rest ending) + length (inside (store dram spans sram))) rest ending c) regs typed.0 o.0
        (node_passes scope (store dram spans sram) run.values.elsewhere n (n + length (beside (store dram spans sram) rest ending)) r.values.1 ran (declared_front p (mems_in (store dram spans sram)) (mems_declared rest) d) regs (regs_more p core t n b (omega arith) regs) typed.0 o.0)
        (stages_pass (after scope (store dram spans sram)) (no_run run.values.elsewhere) (n + length (beside (store dram spans sram) rest ending) + length (inside (store dram spans sram))) rest ending c ran (declared_back p (mems_in (store dram spans sram)) (mems_declared rest) d) (begins run.values.elsewhere r.values.1) (regs_more p core t n m (omega arith) regs) typed.1 o.1 en h)
    stages_pass scope run n (more_stmt (stmt place (gather sram dram places e)) rest) ending c ran d r regs typed o en h =
        let b : ℕ = n + length (beside (gather sram dram places e) rest ending) in
        let m : ℕ = b + length (inside (gather sram dram places e)) in
        stage_passes run r scope ran n (gather sram dram places e) (node p.mems counters run.values.elsewhere n (n + length (beside (gather sram dram places e) rest ending)) (gather sram dram places e)) (stages p.mems counters (no_run run.values.elsewhere) (n + length (beside (gather sram dram places e) rest ending) + length (inside (gather sram dram places e))) rest ending c) regs typed.0 o.0
        (node_passes scope (gather sram dram places e) run.values.elsewhere n (n + length (beside (gather sram dram places e) rest ending)) r.values.1 ran (declared_front p (mems_in (gather sram dram places e)) (mems_declared rest) d) regs (regs_more p core t n b (omega arith) regs) typed.0 o.0)
        (stages_pass (after scope (gather sram dram places e)) (no_run run.values.elsewhere) (n + length (beside (gather sram dram places e) rest ending) + length (inside (gather sram dram places e))) rest ending c ran (declared_back p (mems_in (gather sram dram places e)) (mems_declared rest) d) (begins run.values.elsewhere r.values.1) (regs_more p core t n m (omega arith) regs) typed.1 o.1 en h)
    stages_pass scope run n (more_stmt (stmt place (scatter dram places e sram)) rest) ending c ran d r regs typed o en h =
        let b : ℕ = n + length (beside (scatter dram places e sram) rest ending) in
        let m : ℕ = b + length (inside (scatter dram places e sram)) in
        stage_passes run r scope ran n (scatter dram places e sram) (node p.mems counters run.values.elsewhere n (n + length (beside (scatter dram places e sram) rest ending)) (scatter dram places e sram)) (stages p.mems counters (no_run run.values.elsewhere) (n + length (beside (scatter dram places e sram) rest ending) + length (inside (scatter dram places e sram))) rest ending c) regs typed.0 o.0
        (node_passes scope (scatter dram places e sram) run.values.elsewhere n (n + length (beside (scatter dram places e sram) rest ending)) r.values.1 ran (declared_front p (mems_in (scatter dram places e sram)) (mems_declared rest) d) regs (regs_more p core t n b (omega arith) regs) typed.0 o.0)
        (stages_pass (after scope (scatter dram places e sram)) (no_run run.values.elsewhere) (n + length (beside (scatter dram places e sram) rest ending) + length (inside (scatter dram places e sram))) rest ending c ran (declared_back p (mems_in (scatter dram places e sram)) (mems_declared rest) d) (begins run.values.elsewhere r.values.1) (regs_more p core t n m (omega arith) regs) typed.1 o.1 en h)
    stages_pass scope run n (more_stmt (stmt place (block style body)) rest) ending c ran d r regs typed o en h =
        let b : ℕ = n + length (beside (block style body) rest ending) in
        let m : ℕ = b + length (inside (block style body)) in
        stage_passes run r scope ran n (block style body) (node p.mems counters run.values.elsewhere n (n + length (beside (block style body) rest ending)) (block style body)) (stages p.mems counters (no_run run.values.elsewhere) (n + length (beside (block style body) rest ending) + length (inside (block style body))) rest ending c) regs typed.0 o.0
        (node_passes scope (block style body) run.values.elsewhere n (n + length (beside (block style body) rest ending)) r.values.1 ran (declared_front p (mems_in (block style body)) (mems_declared rest) d) regs (regs_more p core t n b (omega arith) regs) typed.0 o.0)
        (stages_pass (after scope (block style body)) (no_run run.values.elsewhere) (n + length (beside (block style body) rest ending) + length (inside (block style body))) rest ending c ran (declared_back p (mems_in (block style body)) (mems_declared rest) d) (begins run.values.elsewhere r.values.1) (regs_more p core t n m (omega arith) regs) typed.1 o.1 en h)
    stages_pass scope run n (more_stmt (stmt place (foreach style loops body)) rest) ending c ran d r regs typed o en h =
        let b : ℕ = n + length (beside (foreach style loops body) rest ending) in
        let m : ℕ = b + length (inside (foreach style loops body)) in
        stage_passes run r scope ran n (foreach style loops body) (node p.mems counters run.values.elsewhere n (n + length (beside (foreach style loops body) rest ending)) (foreach style loops body)) (stages p.mems counters (no_run run.values.elsewhere) (n + length (beside (foreach style loops body) rest ending) + length (inside (foreach style loops body))) rest ending c) regs typed.0 o.0
        (node_passes scope (foreach style loops body) run.values.elsewhere n (n + length (beside (foreach style loops body) rest ending)) r.values.1 ran (declared_front p (mems_in (foreach style loops body)) (mems_declared rest) d) regs (regs_more p core t n b (omega arith) regs) typed.0 o.0)
        (stages_pass (after scope (foreach style loops body)) (no_run run.values.elsewhere) (n + length (beside (foreach style loops body) rest ending) + length (inside (foreach style loops body))) rest ending c ran (declared_back p (mems_in (foreach style loops body)) (mems_declared rest) d) (begins run.values.elsewhere r.values.1) (regs_more p core t n m (omega arith) regs) typed.1 o.1 en h)
    stages_pass scope run n (more_stmt (stmt place (reduce style fold acc loops body e comb)) rest) ending c ran d r regs typed o en h =
        let b : ℕ = n + length (beside (reduce style fold acc loops body e comb) rest ending) in
        let m : ℕ = b + length (inside (reduce style fold acc loops body e comb)) in
        stage_passes run r scope ran n (reduce style fold acc loops body e comb) (node p.mems counters run.values.elsewhere n (n + length (beside (reduce style fold acc loops body e comb) rest ending)) (reduce style fold acc loops body e comb)) (stages p.mems counters (no_run run.values.elsewhere) (n + length (beside (reduce style fold acc loops body e comb) rest ending) + length (inside (reduce style fold acc loops body e comb))) rest ending c) regs typed.0 o.0
        (node_passes scope (reduce style fold acc loops body e comb) run.values.elsewhere n (n + length (beside (reduce style fold acc loops body e comb) rest ending)) r.values.1 ran (declared_front p (mems_in (reduce style fold acc loops body e comb)) (mems_declared rest) d) regs (regs_more p core t n b (omega arith) regs) typed.0 o.0)
        (stages_pass (after scope (reduce style fold acc loops body e comb)) (no_run run.values.elsewhere) (n + length (beside (reduce style fold acc loops body e comb) rest ending) + length (inside (reduce style fold acc loops body e comb))) rest ending c ran (declared_back p (mems_in (reduce style fold acc loops body e comb)) (mems_declared rest) d) (begins run.values.elsewhere r.values.1) (regs_more p core t n m (omega arith) regs) typed.1 o.1 en h)
    stages_pass scope run n (more_stmt (stmt place (mem_reduce style acc loops body part comb)) rest) ending c ran d r regs typed o en h =
        let b : ℕ = n + length (beside (mem_reduce style acc loops body part comb) rest ending) in
        let m : ℕ = b + length (inside (mem_reduce style acc loops body part comb)) in
        stage_passes run r scope ran n (mem_reduce style acc loops body part comb) (node p.mems counters run.values.elsewhere n (n + length (beside (mem_reduce style acc loops body part comb) rest ending)) (mem_reduce style acc loops body part comb)) (stages p.mems counters (no_run run.values.elsewhere) (n + length (beside (mem_reduce style acc loops body part comb) rest ending) + length (inside (mem_reduce style acc loops body part comb))) rest ending c) regs typed.0 o.0
        (node_passes scope (mem_reduce style acc loops body part comb) run.values.elsewhere n (n + length (beside (mem_reduce style acc loops body part comb) rest ending)) r.values.1 ran (declared_front p (mems_in (mem_reduce style acc loops body part comb)) (mems_declared rest) d) regs (regs_more p core t n b (omega arith) regs) typed.0 o.0)
        (stages_pass (after scope (mem_reduce style acc loops body part comb)) (no_run run.values.elsewhere) (n + length (beside (mem_reduce style acc loops body part comb) rest ending) + length (inside (mem_reduce style acc loops body part comb))) rest ending c ran (declared_back p (mems_in (mem_reduce style acc loops body part comb)) (mems_declared rest) d) (begins run.values.elsewhere r.values.1) (regs_more p core t n m (omega arith) regs) typed.1 o.1 en h)
    stages_pass scope run n (more_stmt (stmt place (fsm start tested test state body last next)) rest) ending c ran d r regs typed o en h =
        let b : ℕ = n + length (beside (fsm start tested test state body last next) rest ending) in
        let m : ℕ = b + length (inside (fsm start tested test state body last next)) in
        stage_passes run r scope ran n (fsm start tested test state body last next) (node p.mems counters run.values.elsewhere n (n + length (beside (fsm start tested test state body last next) rest ending)) (fsm start tested test state body last next)) (stages p.mems counters (no_run run.values.elsewhere) (n + length (beside (fsm start tested test state body last next) rest ending) + length (inside (fsm start tested test state body last next))) rest ending c) regs typed.0 o.0
        (node_passes scope (fsm start tested test state body last next) run.values.elsewhere n (n + length (beside (fsm start tested test state body last next) rest ending)) r.values.1 ran (declared_front p (mems_in (fsm start tested test state body last next)) (mems_declared rest) d) regs (regs_more p core t n b (omega arith) regs) typed.0 o.0)
        (stages_pass (after scope (fsm start tested test state body last next)) (no_run run.values.elsewhere) (n + length (beside (fsm start tested test state body last next) rest ending) + length (inside (fsm start tested test state body last next))) rest ending c ran (declared_back p (mems_in (fsm start tested test state body last next)) (mems_declared rest) d) (begins run.values.elsewhere r.values.1) (regs_more p core t n m (omega arith) regs) typed.1 o.1 en h)
    stages_pass scope run n (more_stmt (stmt place (branch test first second)) rest) ending c ran d r regs typed o en h =
        let b : ℕ = n + length (beside (branch test first second) rest ending) in
        let m : ℕ = b + length (inside (branch test first second)) in
        stage_passes run r scope ran n (branch test first second) (node p.mems counters run.values.elsewhere n (n + length (beside (branch test first second) rest ending)) (branch test first second)) (stages p.mems counters (no_run run.values.elsewhere) (n + length (beside (branch test first second) rest ending) + length (inside (branch test first second))) rest ending c) regs typed.0 o.0
        (node_passes scope (branch test first second) run.values.elsewhere n (n + length (beside (branch test first second) rest ending)) r.values.1 ran (declared_front p (mems_in (branch test first second)) (mems_declared rest) d) regs (regs_more p core t n b (omega arith) regs) typed.0 o.0)
        (stages_pass (after scope (branch test first second)) (no_run run.values.elsewhere) (n + length (beside (branch test first second) rest ending) + length (inside (branch test first second))) rest ending c ran (declared_back p (mems_in (branch test first second)) (mems_declared rest) d) (begins run.values.elsewhere r.values.1) (regs_more p core t n m (omega arith) regs) typed.1 o.1 en h)

    pub node_passes : (scope : Scope) (k : PlainStmtKind) (sources : Sources) (b n : ℕ) → SourcesHave (IsPassed p core t) sources → InRange p scope → Declared p (mems_in k) → Regs p core t b → Regs p core t n → StmtTyped p scope k → StmtKindNames t.ok k
        → NodeNames core t.is (node p.mems counters sources b n k)
    node_passes scope (load_sram sram dram spans) sources b n have ran d low regs typed o =
        let names = spans_pass p core t sources have (is_early_part spans) b spans (slice_parts p core t scope ran spans typed.1.spans_typed o.2) low in
        let m = chip_passes p core t scope sram Sram (mem p.mems sram).ty ran typed.0 refl o.0 in
        either_passes (slice_lanes spans == 1) _ _ (t.drams (dram_number p.mems dram), m, names) (t.drams (dram_number p.mems dram), m, tt, names, tt)
    node_passes scope (load_line line dram spans) sources b n have ran d low regs typed o =
        let names = spans_pass p core t sources have (is_early_part spans) b spans (slice_parts p core t scope ran spans typed.1.spans_typed o.2) low in
        let m = chip_passes p core t scope line LineBuf (mem p.mems line).ty ran typed.0 refl o.0 in
        either_passes (slice_lanes spans == 1) _ _ (t.drams (dram_number p.mems dram), m, names) (t.drams (dram_number p.mems dram), m, tt, names, tt)
    node_passes scope (store dram spans sram) sources b n have ran d low regs typed o =
        let names = spans_pass p core t sources have (is_early_part spans) b spans (slice_parts p core t scope ran spans typed.1.spans_typed o.2) low in
        let m = chip_passes p core t scope sram Sram (mem p.mems sram).ty ran typed.0 refl o.0 in
        either_passes (slice_lanes spans == 1) _ _ (t.drams (dram_number p.mems dram), m, names) (t.drams (dram_number p.mems dram), m, tt, names, tt)
    node_passes scope (gather sram dram places e) sources b n have ran d low regs typed o = (
      t.drams (dram_number p.mems dram),
      chip_passes p core t scope sram Sram (mem p.mems sram).ty ran typed.0 refl o.0,
      chip_passes p core t scope places Sram int_type ran typed.1.from_sram refl o.2,
      tt,
      from_passes p core t sources have is_early b e (names_pass p core t scope ran e typed.1.how_many.0.0 o.3) (low b (omega arith)),
    )
    node_passes scope (scatter dram places e sram) sources b n have ran d low regs typed o = (
      t.drams (dram_number p.mems dram),
      chip_passes p core t scope sram Sram (mem p.mems sram).ty ran typed.0 refl o.3,
      chip_passes p core t scope places Sram int_type ran typed.1.from_sram refl o.1,
      tt,
      from_passes p core t sources have is_early b e (names_pass p core t scope ran e typed.1.how_many.0.0 o.2) (low b (omega arith)),
    )
    node_passes scope (block style body) sources b n have ran d low regs typed o =
        body_passes sources have n scope [] (style_of p.mems counters style body) body no_more nothing _ ran d typed o tt regs tt (stages_pass scope (no_run sources) n body no_more nothing ran d (begins sources have) regs typed o tt tt)
    node_passes scope (foreach style loops body) sources b n have ran d low regs typed o =
        let within : InRange p (with_counters scope loops) = range_loops p scope loops ran in
        let bounds = loops_pass p core t sources have b loops (bound_parts p core t scope ran loops typed.1.bounds o.0) low in
        body_passes sources have n (with_counters scope loops) (counters_of p.mems sources b loops) style body no_more nothing _ within d typed.2 o.1 tt regs bounds (stages_pass (with_counters scope loops) (no_run sources) n body no_more nothing within d (begins sources have) regs typed.2 o.1 tt tt)
    node_passes scope (reduce style fold acc loops body e comb) sources b n have ran d low regs typed o =
        let begun : ℕ = b + length (registers_for is_early (bounds_of loops)) in
        let c : Combines = combines p.mems fold acc begun comb e in
        let within : InRange p (with_counters scope loops) = range_loops p scope loops ran in
        let bounds = loops_pass p core t sources have b loops (bound_parts p core t scope ran loops typed.1.bounds o.1) low in
        let word : Names (is_chip p core t) e = names_pass p core t (after_all (with_counters scope loops) body) (range_all p (with_counters scope loops) body within d) e typed.5 o.3 in
        let h : CombPasses p core t c = combines_pass fold acc begun comb e (chip_passes p core t scope acc Reg (type_of e) ran typed.3 refl o.0) (low begun (omega arith)) word in
        body_passes sources have n (with_counters scope loops) (counters_of p.mems sources b loops) style body (ending_of loops e) c _ within d typed.2 o.2 h regs bounds
        (stages_pass (with_counters scope loops) (no_run sources) n body (ending_of loops e) c within d (begins sources have) regs typed.2 o.2 (ending_passes loops e word) h)
    node_passes scope (mem_reduce style acc loops body part comb) sources b n have ran d low regs typed o =
        let begun : ℕ = b + length (registers_for is_early (bounds_of loops)) in
        let c : Combines = reduces_elements part (mem_number p.mems acc) begun comb in
        let within : InRange p (with_counters scope loops) = range_loops p scope loops ran in
        let bounds = loops_pass p core t sources have b loops (bound_parts p core t scope ran loops typed.1.bounds o.2) low in
        let is = d part (own_declared body part typed.6) in
        let h : CombPasses p core t c = (chip_passes p core t scope acc Sram (mem p.mems acc).ty ran typed.3 refl o.0, low begun (omega arith), t.chips part o.1 is.0 is.1) in
        outer_passes n (counters_of p.mems sources b loops) style body no_more _ d o.3 regs bounds (stages_pass (with_counters scope loops) (no_run sources) n body no_more c within d (begins sources have) regs typed.2 o.3 tt h)
    node_passes scope (fsm start tested test state body last next) sources b n have ran d low regs typed o =
        let kept : Sources = with_state sources tested state last n in
        let h : SourcesHave (IsPassed p core t) kept = state_has sources tested state last n have (regs n (omega arith)) in
        let more : Regs p core t (suc n) = regs_more p core t n (suc n) (omega arith) regs in
        let inside : Scope = with_val scope state (type_of start) in (
          list_passes p core t sources have start (names_pass p core t scope ran start typed.0.0.0 o.0),
          regs n (omega arith),
          list_passes p core t kept h test (names_pass p core t (with_val scope tested (type_of start)) ran test typed.2.0.0 o.1),
          body_passes kept h (suc n) inside [] Pipe body no_more nothing _ ran d typed.4 o.2 tt more tt (stages_pass inside (no_run kept) (suc n) body no_more nothing ran d (begins kept h) more typed.4 o.2 tt tt),
          list_passes p core t kept h next (names_pass p core t (with_val scope last (type_of start)) ran next typed.6.0.0 o.3),
        )
    node_passes scope (branch test first second) sources b n have ran d low regs typed o =
        let m : ℕ = n + length (registers_in first no_more) in
        let later : Regs p core t m = regs_more p core t n m (omega arith) regs in
        let df : Declared p (mems_declared first) = declared_front p (mems_declared first) (mems_declared second) d in
        let ds : Declared p (mems_declared second) = declared_back p (mems_declared first) (mems_declared second) d in (
          list_passes p core t sources have test (names_pass p core t scope ran test typed.0.0.0 o.0),
          body_passes sources have n scope [] Pipe first no_more nothing _ ran df typed.1 o.1 tt regs tt (stages_pass scope (no_run sources) n first no_more nothing ran df (begins sources have) regs typed.1 o.1 tt tt),
          body_passes sources have m scope [] Pipe second no_more nothing _ ran ds typed.2 o.2 tt later tt (stages_pass scope (no_run sources) m second no_more nothing ran ds (begins sources have) later typed.2 o.2 tt tt),
        )
    node_passes scope (declare m) sources b n have ran d low regs typed o = (tt, tt, tt)
    node_passes scope (name v x) sources b n have ran d low regs typed o = (tt, tt, tt)
    node_passes scope (set_reg m x) sources b n have ran d low regs typed o = (tt, tt, tt)
    node_passes scope (set_out m x) sources b n have ran d low regs typed o = (tt, tt, tt)
    node_passes scope (set_sram m xs x) sources b n have ran d low regs typed o = (tt, tt, tt)
    node_passes scope (enq m x) sources b n have ran d low regs typed o = (tt, tt, tt)
