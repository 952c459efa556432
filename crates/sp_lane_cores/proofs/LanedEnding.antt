-- The last stage of a loop that combines is its combination, and no other stage names what is its own.
use Rattle.std.proofs.Common.{◌≡◌, ℕ, suc, ◌+◌, ◌==◌, true, false, not, List, [], ◌∷◌, ◌++◌, length, refl, sym, subst, arith}
use Rattle.std.specs.Prelude.{IsTrue}
use Rattle.sp_words.specs.declared.types.Ty.{Ty}
use Rattle.sp_tree.specs.declared.statement.Comb.{Comb}
use Rattle.sp_tree.specs.Expressions.{mem, dims}
use Rattle.sp_tree.specs.Footprint.{Names, BodyNames}
use Rattle.sp_tree.specs.PlainExpression.{PlainExpr, type_of}
use Rattle.sp_tree.specs.PlainProgram.{PlainProgram}
use Rattle.sp_tree.specs.PlainStatement.{PlainStmts, stmt, declare, name, set_reg, set_out, set_sram, enq, load_sram, load_line, store, gather, scatter, block, foreach, reduce, mem_reduce, fsm, branch, no_stmt, more_stmt}
use Rattle.sp_tree.specs.Structure.{mems_declared, mems_in}
use Rattle.sp_tree.specs.Typing.{Scope, BodyTyped, after}
use Rattle.sp_core.specs.Footprint.{ListNames}
use Rattle.sp_core.specs.PlainCore.{PlainOp, PlainCore, no_stage, more_stage}
use Rattle.sp_sugar.specs.Combination.{element_counters, element_value, element_loop}
use Rattle.sp_sugar.specs.Operations.{Code, alone, read_op, code}
use Rattle.sp_sugar.specs.Registers.{beside, inside}
use Rattle.sp_sugar.specs.Runs.{Run, no_run, with_stmt}
use Rattle.sp_sugar.specs.Stages.{run_stage, first_of, Combines, nothing, folds, reduces, reduces_elements, combining, combination_stage, last_stages, stages, node}
use Rattle.sp_sugar.specs.Uses.{Ending, no_more, in_last_run, in_combination}
use Rattle.sp_lane_cores.proofs.LanedNaming.{Test, InRange, Declared, declared_front, declared_back, range_after, is_chip, Pass, pass_append, IsPassed, code_passes, RunPasses, stmt_passes}
use Rattle.std.proofs.lemmas.List.{length-append}
use Rattle.std.specs.Prelude.{◌&&◌}
use Rattle.sp_lane_cores.specs.LanedMarks.{LanesAtLast, folded, reduced, element, IsCombined, LastCombines}
use Rattle.sp_lane_cores.proofs.LanedParting.{first_has, Regs, regs_more, Holding, run_pass, early_pass, value_passes}
use Rattle.sp_lane_cores.proofs.LanedPassing.{EndPasses, begins, last_run, node_passes}

-- the counters of elements have one lane each
pub elements_laned : (c : ℕ) (ds : List ℕ) → LanesAtLast (element_counters c ds)
elements_laned c [] = tt
elements_laned c (d ∷ []) = tt
elements_laned c (d ∷ next ∷ ds) = (refl, elements_laned (suc c) (next ∷ ds))

-- what is combined has a word
abbrev pub Ended : Ending → Combines → Type 0
Ended ending nothing = ⊥
Ended ending (reduces_elements part acc begun comb) = Unit {0}
Ended no_more (folds acc comb e) = ⊥
Ended no_more (reduces acc begun comb e) = ⊥
Ended (in_last_run x) (folds acc comb e) = Unit {0}
Ended (in_last_run x) (reduces acc begun comb e) = Unit {0}
Ended (in_combination x) (folds acc comb e) = Unit {0}
Ended (in_combination x) (reduces acc begun comb e) = Unit {0}

module _ (p : PlainProgram) (counters : ℕ) (core : PlainCore) (t : Test p core) where
  -- the test is that of the combination, and its word passes it
  abbrev pub Own : Combines → Type 0
  Own nothing = ⊥
  Own (folds acc comb e) = ((λ m. not (m == acc)) ≡ t.is) × Names (is_chip p core t) e
  Own (reduces acc begun comb e) = ((λ m. not (m == acc) && not (m == begun)) ≡ t.is) × Names (is_chip p core t) e
  Own (reduces_elements part acc begun comb) = ((λ m. not (m == acc) && not (m == begun)) ≡ t.is) × IsTrue (is_chip p core t part)

  abbrev ending_one : Holding p core t
  ending_one = record { Good = λ xs. LastCombines core t.is xs; good = λ ops rest h k. ((tt, tt, h), k) }

  -- a word after other operations is combined
  pub combined_by_fold : (before : List PlainOp) (x : Code) (acc : ℕ) (comb : Comb) (e : PlainExpr) → Pass p core t before → Pass p core t x.ops → Own (folds acc comb e)
      → IsCombined core (folded x.word acc (type_of e) comb) (before ++ x.ops ++ combining p.mems counters (length before + length x.ops) x.word (folds acc comb e)) (length before + length x.ops)
  combined_by_fold before x acc comb e h k o =
      record { before = before ++ x.ops; place = length-append before x.ops; is = refl; apart = subst (λ f. ListNames core f (before ++ x.ops)) (sym o.0) (pass_append p core t before x.ops h k) }

  pub combined_by_reduce : (before : List PlainOp) (x : Code) (acc begun : ℕ) (comb : Comb) (e : PlainExpr) → Pass p core t before → Pass p core t x.ops → Own (reduces acc begun comb e)
      → IsCombined core (reduced x.word acc begun (type_of e) comb) (before ++ x.ops ++ combining p.mems counters (length before + length x.ops) x.word (reduces acc begun comb e)) (length before + length x.ops)
  combined_by_reduce before x acc begun comb e h k o =
      record { before = before ++ x.ops; place = length-append before x.ops; is = refl; apart = subst (λ f. ListNames core f (before ++ x.ops)) (sym o.0) (pass_append p core t before x.ops h k) }

  fold_end : (ops : List PlainOp) (x : Code) (acc : ℕ) (comb : Comb) (e : PlainExpr) → Pass p core t ops → Pass p core t x.ops → Own (folds acc comb e) → LastCombines core t.is (run_stage ops (combination_stage p.mems counters x (folds acc comb e)))
  fold_end ops x acc comb e h k o = run_pass p core t ending_one ops _ h (tt, (folded x.word acc (type_of e) comb, o.0, combined_by_fold [] x acc comb e tt k o))

  reduce_end : (ops : List PlainOp) (x : Code) (acc begun : ℕ) (comb : Comb) (e : PlainExpr) → Pass p core t ops → Pass p core t x.ops → Own (reduces acc begun comb e) → LastCombines core t.is (run_stage ops (combination_stage p.mems counters x (reduces acc begun comb e)))
  reduce_end ops x acc begun comb e h k o = run_pass p core t ending_one ops _ h (tt, (reduced x.word acc begun (type_of e) comb, o.0, combined_by_reduce [] x acc begun comb e tt k o))

  elements_end : (ops : List PlainOp) (part acc begun : ℕ) (comb : Comb) → Pass p core t ops → Own (reduces_elements part acc begun comb)
      → LastCombines core t.is (run_stage ops (more_stage 0 0 true (element_loop p.mems counters (dims p.mems part) part acc begun (mem p.mems part).ty comb) no_stage))
  elements_end ops part acc begun comb h o =
      let ds : List ℕ = dims p.mems part in
      let ty : Ty = (mem p.mems part).ty in
      let value : Code = element_value p.mems counters ds part ty in
      run_pass p core t ending_one ops _ h (
        elements_laned counters ds,
        (
          element p.mems value.word counters ds acc begun ty comb,
          o.0,
          record { before = value.ops; place = refl; is = refl; apart = subst (λ f. ListNames core f value.ops) (sym o.0) (value_passes p core t counters ds part ty o.1) },
        ),
      )

  last_end : (run : Run) (n : ℕ) (ending : Ending) (c : Combines) → RunPasses p core t run → Regs p core t n → EndPasses p counters core t ending → Ended ending c → Own c → LastCombines core t.is (last_stages p.mems counters run n ending c)
  last_end run n ending nothing r regs en h o = absurd h
  last_end run n no_more (folds acc comb e) r regs en h o = absurd h
  last_end run n no_more (reduces acc begun comb e) r regs en h o = absurd h
  last_end run n no_more (reduces_elements part acc begun comb) r regs en h o = elements_end run.ops part acc begun comb r.ops o
  last_end run n (in_combination x) (reduces_elements part acc begun comb) r regs en h o = elements_end run.ops part acc begun comb r.ops o
  last_end run n (in_last_run x) (reduces_elements part acc begun comb) r regs en h o = elements_end run.ops part acc begun comb r.ops o
  last_end run n (in_combination x) (folds acc comb e) r regs en h o = fold_end run.ops (code p.mems run.values.elsewhere 0 x) acc comb e r.ops (code_passes p core t run.values.elsewhere r.values.1 x 0 en) o
  last_end run n (in_combination x) (reduces acc begun comb e) r regs en h o = reduce_end run.ops (code p.mems run.values.elsewhere 0 x) acc begun comb e r.ops (code_passes p core t run.values.elsewhere r.values.1 x 0 en) o
  last_end run n (in_last_run x) (folds acc comb e) r regs en h o = fold_end _ (alone 0 (read_op (type_of x) n [])) acc comb e (last_run p counters core t run n x r en (regs n (omega arith))) (regs n (omega arith), tt) o
  last_end run n (in_last_run x) (reduces acc begun comb e) r regs en h o = reduce_end _ (alone 0 (read_op (type_of x) n [])) acc begun comb e (last_run p counters core t run n x r en (regs n (omega arith))) (regs n (omega arith), tt) o

  mutual
    unfolding stages

    pub stages_end : (scope : Scope) (run : Run) (n : ℕ) (body : PlainStmts) (ending : Ending) (c : Combines) → InRange p scope → Declared p (mems_declared body) → RunPasses p core t run → Regs p core t n → BodyTyped p scope body → BodyNames t.ok body → EndPasses p counters core t ending → Ended ending c → Own c
        → LastCombines core t.is (stages p.mems counters run n body ending c)
    stages_end scope run n no_stmt ending c ran d r regs typed o en h own = last_end run n ending c r regs en h own
    stages_end scope run n (more_stmt (stmt place (declare m)) rest) ending c ran d r regs typed o en h own =
        stages_end (after scope (declare m)) (with_stmt p.mems false (first_of n (beside (declare m) rest ending)) run (declare m)) (n + length (beside (declare m) rest ending)) rest ending c (range_after p scope (declare m) ran (declared_front p (mems_in (declare m)) (mems_declared rest) d)) (declared_back p (mems_in (declare m)) (mems_declared rest) d)
        (stmt_passes p core t false (first_of n (beside (declare m) rest ending)) run scope (declare m) ran (declared_front p (mems_in (declare m)) (mems_declared rest) d) r (first_has (IsPassed p core t) n (beside (declare m) rest ending) (regs n (omega arith))) typed.0 o.0)
        (regs_more p core t n (n + length (beside (declare m) rest ending)) (omega arith) regs) typed.1 o.1 en h own
    stages_end scope run n (more_stmt (stmt place (name v x)) rest) ending c ran d r regs typed o en h own =
        stages_end (after scope (name v x)) (with_stmt p.mems false (first_of n (beside (name v x) rest ending)) run (name v x)) (n + length (beside (name v x) rest ending)) rest ending c (range_after p scope (name v x) ran (declared_front p (mems_in (name v x)) (mems_declared rest) d)) (declared_back p (mems_in (name v x)) (mems_declared rest) d)
        (stmt_passes p core t false (first_of n (beside (name v x) rest ending)) run scope (name v x) ran (declared_front p (mems_in (name v x)) (mems_declared rest) d) r (first_has (IsPassed p core t) n (beside (name v x) rest ending) (regs n (omega arith))) typed.0 o.0)
        (regs_more p core t n (n + length (beside (name v x) rest ending)) (omega arith) regs) typed.1 o.1 en h own
    stages_end scope run n (more_stmt (stmt place (set_reg m x)) rest) ending c ran d r regs typed o en h own =
        stages_end (after scope (set_reg m x)) (with_stmt p.mems false (first_of n (beside (set_reg m x) rest ending)) run (set_reg m x)) (n + length (beside (set_reg m x) rest ending)) rest ending c (range_after p scope (set_reg m x) ran (declared_front p (mems_in (set_reg m x)) (mems_declared rest) d)) (declared_back p (mems_in (set_reg m x)) (mems_declared rest) d)
        (stmt_passes p core t false (first_of n (beside (set_reg m x) rest ending)) run scope (set_reg m x) ran (declared_front p (mems_in (set_reg m x)) (mems_declared rest) d) r (first_has (IsPassed p core t) n (beside (set_reg m x) rest ending) (regs n (omega arith))) typed.0 o.0)
        (regs_more p core t n (n + length (beside (set_reg m x) rest ending)) (omega arith) regs) typed.1 o.1 en h own
    stages_end scope run n (more_stmt (stmt place (set_out m x)) rest) ending c ran d r regs typed o en h own =
        stages_end (after scope (set_out m x)) (with_stmt p.mems false (first_of n (beside (set_out m x) rest ending)) run (set_out m x)) (n + length (beside (set_out m x) rest ending)) rest ending c (range_after p scope (set_out m x) ran (declared_front p (mems_in (set_out m x)) (mems_declared rest) d)) (declared_back p (mems_in (set_out m x)) (mems_declared rest) d)
        (stmt_passes p core t false (first_of n (beside (set_out m x) rest ending)) run scope (set_out m x) ran (declared_front p (mems_in (set_out m x)) (mems_declared rest) d) r (first_has (IsPassed p core t) n (beside (set_out m x) rest ending) (regs n (omega arith))) typed.0 o.0)
        (regs_more p core t n (n + length (beside (set_out m x) rest ending)) (omega arith) regs) typed.1 o.1 en h own
    stages_end scope run n (more_stmt (stmt place (set_sram m xs x)) rest) ending c ran d r regs typed o en h own =
        stages_end (after scope (set_sram m xs x)) (with_stmt p.mems false (first_of n (beside (set_sram m xs x) rest ending)) run (set_sram m xs x)) (n + length (beside (set_sram m xs x) rest ending)) rest ending c (range_after p scope (set_sram m xs x) ran (declared_front p (mems_in (set_sram m xs x)) (mems_declared rest) d)) (declared_back p (mems_in (set_sram m xs x)) (mems_declared rest) d)
        (stmt_passes p core t false (first_of n (beside (set_sram m xs x) rest ending)) run scope (set_sram m xs x) ran (declared_front p (mems_in (set_sram m xs x)) (mems_declared rest) d) r (first_has (IsPassed p core t) n (beside (set_sram m xs x) rest ending) (regs n (omega arith))) typed.0 o.0)
        (regs_more p core t n (n + length (beside (set_sram m xs x) rest ending)) (omega arith) regs) typed.1 o.1 en h own
    stages_end scope run n (more_stmt (stmt place (enq m x)) rest) ending c ran d r regs typed o en h own =
        stages_end (after scope (enq m x)) (with_stmt p.mems false (first_of n (beside (enq m x) rest ending)) run (enq m x)) (n + length (beside (enq m x) rest ending)) rest ending c (range_after p scope (enq m x) ran (declared_front p (mems_in (enq m x)) (mems_declared rest) d)) (declared_back p (mems_in (enq m x)) (mems_declared rest) d)
        (stmt_passes p core t false (first_of n (beside (enq m x) rest ending)) run scope (enq m x) ran (declared_front p (mems_in (enq m x)) (mems_declared rest) d) r (first_has (IsPassed p core t) n (beside (enq m x) rest ending) (regs n (omega arith))) typed.0 o.0)
        (regs_more p core t n (n + length (beside (enq m x) rest ending)) (omega arith) regs) typed.1 o.1 en h own
    stages_end scope run n (more_stmt (stmt place (load_sram sram dram spans)) rest) ending c ran d r regs typed o en h own =
        let b : ℕ = n + length (beside (load_sram sram dram spans) rest ending) in
        let m : ℕ = b + length (inside (load_sram sram dram spans)) in
        run_pass p core t ending_one run.ops _ r.ops (early_pass p core t run.values.elsewhere r.values.1 ending_one scope ran n (load_sram sram dram spans) (more_stage 0 0 false (node p.mems counters run.values.elsewhere n (n + length (beside (load_sram sram dram spans) rest ending)) (load_sram sram dram spans)) (stages p.mems counters (no_run run.values.elsewhere) (n + length (beside (load_sram sram dram spans) rest ending) + length (inside (load_sram sram dram spans))) rest ending c)) typed.0 o.0 regs (
          node_passes p counters core t scope (load_sram sram dram spans) run.values.elsewhere n (n + length (beside (load_sram sram dram spans) rest ending)) r.values.1 ran (declared_front p (mems_in (load_sram sram dram spans)) (mems_declared rest) d) regs (regs_more p core t n b (omega arith) regs) typed.0 o.0,
          stages_end (after scope (load_sram sram dram spans)) (no_run run.values.elsewhere) (n + length (beside (load_sram sram dram spans) rest ending) + length (inside (load_sram sram dram spans))) rest ending c ran (declared_back p (mems_in (load_sram sram dram spans)) (mems_declared rest) d) (begins p counters core t run.values.elsewhere r.values.1) (regs_more p core t n m (omega arith) regs) typed.1 o.1 en h own,
        ))
    stages_end scope run n (more_stmt (stmt place (load_line line dram spans)) rest) ending c ran d r regs typed o en h own =
        let b : ℕ = n + length (beside (load_line line dram spans) rest ending) in
        let m : ℕ = b + length (inside (load_line line dram spans)) in
        run_pass p core t ending_one run.ops _ r.ops (early_pass p core t run.values.elsewhere r.values.1 ending_one scope ran n (load_line line dram spans) (more_stage 0 0 false (node p.mems counters run.values.elsewhere n (n + length (beside (load_line line dram spans) rest ending)) (load_line line dram spans)) (stages p.mems counters (no_run run.values.elsewhere) (n + length (beside (load_line line dram spans) rest ending) + length (inside (load_line line dram spans))) rest ending c)) typed.0 o.0 regs (
          node_passes p counters core t scope (load_line line dram spans) run.values.elsewhere n (n + length (beside (load_line line dram spans) rest ending)) r.values.1 ran (declared_front p (mems_in (load_line line dram spans)) (mems_declared rest) d) regs (regs_more p core t n b (omega arith) regs) typed.0 o.0,
          stages_end (after scope (load_line line dram spans)) (no_run run.values.elsewhere) (n + length (beside (load_line line dram spans) rest ending) + length (inside (load_line line dram spans))) rest ending c ran (declared_back p (mems_in (load_line line dram spans)) (mems_declared rest) d) (begins p counters core t run.values.elsewhere r.values.1) (regs_more p core t n m (omega arith) regs) typed.1 o.1 en h own,
        ))
    stages_end scope run n (more_stmt (stmt place (store dram spans sram)) rest) ending c ran d r regs typed o en h own =
        let b : ℕ = n + length (beside (store dram spans sram) rest ending) in
        let m : ℕ = b + length (inside (store dram spans sram)) in
        run_pass p core t ending_one run.ops _ r.ops (early_pass p core t run.values.elsewhere r.values.1 ending_one scope ran n (store dram spans sram) (more_stage 0 0 false (node p.mems counters run.values.elsewhere n (n + length (beside (store dram spans sram) rest ending)) (store dram spans sram)) (stages p.mems counters (no_run run.values.elsewhere) (n + length (beside (store dram spans sram) rest ending) + length (inside (store dram spans sram))) rest ending c)) typed.0 o.0 regs (
          node_passes p counters core t scope (store dram spans sram) run.values.elsewhere n (n + length (beside (store dram spans sram) rest ending)) r.values.1 ran (declared_front p (mems_in (store dram spans sram)) (mems_declared rest) d) regs (regs_more p core t n b (omega arith) regs) typed.0 o.0,
          stages_end (after scope (store dram spans sram)) (no_run run.values.elsewhere) (n + length (beside (store dram spans sram) rest ending) + length (inside (store dram spans sram))) rest ending c ran (declared_back p (mems_in (store dram spans sram)) (mems_declared rest) d) (begins p counters core t run.values.elsewhere r.values.1) (regs_more p core t n m (omega arith) regs) typed.1 o.1 en h own,
        ))
    stages_end scope run n (more_stmt (stmt place (gather sram dram places e)) rest) ending c ran d r regs typed o en h own =
        let b : ℕ = n + length (beside (gather sram dram places e) rest ending) in
        let m : ℕ = b + length (inside (gather sram dram places e)) in
        run_pass p core t ending_one run.ops _ r.ops (early_pass p core t run.values.elsewhere r.values.1 ending_one scope ran n (gather sram dram places e) (more_stage 0 0 false (node p.mems counters run.values.elsewhere n (n + length (beside (gather sram dram places e) rest ending)) (gather sram dram places e)) (stages p.mems counters (no_run run.values.elsewhere) (n + length (beside (gather sram dram places e) rest ending) + length (inside (gather sram dram places e))) rest ending c)) typed.0 o.0 regs (
          node_passes p counters core t scope (gather sram dram places e) run.values.elsewhere n (n + length (beside (gather sram dram places e) rest ending)) r.values.1 ran (declared_front p (mems_in (gather sram dram places e)) (mems_declared rest) d) regs (regs_more p core t n b (omega arith) regs) typed.0 o.0,
          stages_end (after scope (gather sram dram places e)) (no_run run.values.elsewhere) (n + length (beside (gather sram dram places e) rest ending) + length (inside (gather sram dram places e))) rest ending c ran (declared_back p (mems_in (gather sram dram places e)) (mems_declared rest) d) (begins p counters core t run.values.elsewhere r.values.1) (regs_more p core t n m (omega arith) regs) typed.1 o.1 en h own,
        ))
    stages_end scope run n (more_stmt (stmt place (scatter dram places e sram)) rest) ending c ran d r regs typed o en h own =
        let b : ℕ = n + length (beside (scatter dram places e sram) rest ending) in
        let m : ℕ = b + length (inside (scatter dram places e sram)) in
        run_pass p core t ending_one run.ops _ r.ops (early_pass p core t run.values.elsewhere r.values.1 ending_one scope ran n (scatter dram places e sram) (more_stage 0 0 false (node p.mems counters run.values.elsewhere n (n + length (beside (scatter dram places e sram) rest ending)) (scatter dram places e sram)) (stages p.mems counters (no_run run.values.elsewhere) (n + length (beside (scatter dram places e sram) rest ending) + length (inside (scatter dram places e sram))) rest ending c)) typed.0 o.0 regs (
          node_passes p counters core t scope (scatter dram places e sram) run.values.elsewhere n (n + length (beside (scatter dram places e sram) rest ending)) r.values.1 ran (declared_front p (mems_in (scatter dram places e sram)) (mems_declared rest) d) regs (regs_more p core t n b (omega arith) regs) typed.0 o.0,
          stages_end (after scope (scatter dram places e sram)) (no_run run.values.elsewhere) (n + length (beside (scatter dram places e sram) rest ending) + length (inside (scatter dram places e sram))) rest ending c ran (declared_back p (mems_in (scatter dram places e sram)) (mems_declared rest) d) (begins p counters core t run.values.elsewhere r.values.1) (regs_more p core t n m (omega arith) regs) typed.1 o.1 en h own,
        ))
    stages_end scope run n (more_stmt (stmt place (block style body)) rest) ending c ran d r regs typed o en h own =
        let b : ℕ = n + length (beside (block style body) rest ending) in
        let m : ℕ = b + length (inside (block style body)) in
        run_pass p core t ending_one run.ops _ r.ops (early_pass p core t run.values.elsewhere r.values.1 ending_one scope ran n (block style body) (more_stage 0 0 false (node p.mems counters run.values.elsewhere n (n + length (beside (block style body) rest ending)) (block style body)) (stages p.mems counters (no_run run.values.elsewhere) (n + length (beside (block style body) rest ending) + length (inside (block style body))) rest ending c)) typed.0 o.0 regs (
          node_passes p counters core t scope (block style body) run.values.elsewhere n (n + length (beside (block style body) rest ending)) r.values.1 ran (declared_front p (mems_in (block style body)) (mems_declared rest) d) regs (regs_more p core t n b (omega arith) regs) typed.0 o.0,
          stages_end (after scope (block style body)) (no_run run.values.elsewhere) (n + length (beside (block style body) rest ending) + length (inside (block style body))) rest ending c ran (declared_back p (mems_in (block style body)) (mems_declared rest) d) (begins p counters core t run.values.elsewhere r.values.1) (regs_more p core t n m (omega arith) regs) typed.1 o.1 en h own,
        ))
    stages_end scope run n (more_stmt (stmt place (foreach style loops body)) rest) ending c ran d r regs typed o en h own =
        let b : ℕ = n + length (beside (foreach style loops body) rest ending) in
        let m : ℕ = b + length (inside (foreach style loops body)) in
        run_pass p core t ending_one run.ops _ r.ops (early_pass p core t run.values.elsewhere r.values.1 ending_one scope ran n (foreach style loops body) (more_stage 0 0 false (node p.mems counters run.values.elsewhere n (n + length (beside (foreach style loops body) rest ending)) (foreach style loops body)) (stages p.mems counters (no_run run.values.elsewhere) (n + length (beside (foreach style loops body) rest ending) + length (inside (foreach style loops body))) rest ending c)) typed.0 o.0 regs (
          node_passes p counters core t scope (foreach style loops body) run.values.elsewhere n (n + length (beside (foreach style loops body) rest ending)) r.values.1 ran (declared_front p (mems_in (foreach style loops body)) (mems_declared rest) d) regs (regs_more p core t n b (omega arith) regs) typed.0 o.0,
          stages_end (after scope (foreach style loops body)) (no_run run.values.elsewhere) (n + length (beside (foreach style loops body) rest ending) + length (inside (foreach style loops body))) rest ending c ran (declared_back p (mems_in (foreach style loops body)) (mems_declared rest) d) (begins p counters core t run.values.elsewhere r.values.1) (regs_more p core t n m (omega arith) regs) typed.1 o.1 en h own,
        ))
    stages_end scope run n (more_stmt (stmt place (reduce style fold acc loops body e comb)) rest) ending c ran d r regs typed o en h own =
        let b : ℕ = n + length (beside (reduce style fold acc loops body e comb) rest ending) in
        let m : ℕ = b + length (inside (reduce style fold acc loops body e comb)) in
        run_pass p core t ending_one run.ops _ r.ops (early_pass p core t run.values.elsewhere r.values.1 ending_one scope ran n (reduce style fold acc loops body e comb) (more_stage 0 0 false (node p.mems counters run.values.elsewhere n (n + length (beside (reduce style fold acc loops body e comb) rest ending)) (reduce style fold acc loops body e comb)) (stages p.mems counters (no_run run.values.elsewhere) (n + length (beside (reduce style fold acc loops body e comb) rest ending) + length (inside (reduce style fold acc loops body e comb))) rest ending c)) typed.0 o.0 regs (
          node_passes p counters core t scope (reduce style fold acc loops body e comb) run.values.elsewhere n (n + length (beside (reduce style fold acc loops body e comb) rest ending)) r.values.1 ran (declared_front p (mems_in (reduce style fold acc loops body e comb)) (mems_declared rest) d) regs (regs_more p core t n b (omega arith) regs) typed.0 o.0,
          stages_end (after scope (reduce style fold acc loops body e comb)) (no_run run.values.elsewhere) (n + length (beside (reduce style fold acc loops body e comb) rest ending) + length (inside (reduce style fold acc loops body e comb))) rest ending c ran (declared_back p (mems_in (reduce style fold acc loops body e comb)) (mems_declared rest) d) (begins p counters core t run.values.elsewhere r.values.1) (regs_more p core t n m (omega arith) regs) typed.1 o.1 en h own,
        ))
    stages_end scope run n (more_stmt (stmt place (mem_reduce style acc loops body part comb)) rest) ending c ran d r regs typed o en h own =
        let b : ℕ = n + length (beside (mem_reduce style acc loops body part comb) rest ending) in
        let m : ℕ = b + length (inside (mem_reduce style acc loops body part comb)) in
        run_pass p core t ending_one run.ops _ r.ops (early_pass p core t run.values.elsewhere r.values.1 ending_one scope ran n (mem_reduce style acc loops body part comb) (more_stage 0 0 false (node p.mems counters run.values.elsewhere n (n + length (beside (mem_reduce style acc loops body part comb) rest ending)) (mem_reduce style acc loops body part comb)) (stages p.mems counters (no_run run.values.elsewhere) (n + length (beside (mem_reduce style acc loops body part comb) rest ending) + length (inside (mem_reduce style acc loops body part comb))) rest ending c)) typed.0 o.0 regs (
          node_passes p counters core t scope (mem_reduce style acc loops body part comb) run.values.elsewhere n (n + length (beside (mem_reduce style acc loops body part comb) rest ending)) r.values.1 ran (declared_front p (mems_in (mem_reduce style acc loops body part comb)) (mems_declared rest) d) regs (regs_more p core t n b (omega arith) regs) typed.0 o.0,
          stages_end (after scope (mem_reduce style acc loops body part comb)) (no_run run.values.elsewhere) (n + length (beside (mem_reduce style acc loops body part comb) rest ending) + length (inside (mem_reduce style acc loops body part comb))) rest ending c ran (declared_back p (mems_in (mem_reduce style acc loops body part comb)) (mems_declared rest) d) (begins p counters core t run.values.elsewhere r.values.1) (regs_more p core t n m (omega arith) regs) typed.1 o.1 en h own,
        ))
    stages_end scope run n (more_stmt (stmt place (fsm start tested test state body last next)) rest) ending c ran d r regs typed o en h own =
        let b : ℕ = n + length (beside (fsm start tested test state body last next) rest ending) in
        let m : ℕ = b + length (inside (fsm start tested test state body last next)) in
        run_pass p core t ending_one run.ops _ r.ops (early_pass p core t run.values.elsewhere r.values.1 ending_one scope ran n (fsm start tested test state body last next) (more_stage 0 0 false (node p.mems counters run.values.elsewhere n (n + length (beside (fsm start tested test state body last next) rest ending)) (fsm start tested test state body last next)) (stages p.mems counters (no_run run.values.elsewhere) (n + length (beside (fsm start tested test state body last next) rest ending) + length (inside (fsm start tested test state body last next))) rest ending c)) typed.0 o.0 regs (
          node_passes p counters core t scope (fsm start tested test state body last next) run.values.elsewhere n (n + length (beside (fsm start tested test state body last next) rest ending)) r.values.1 ran (declared_front p (mems_in (fsm start tested test state body last next)) (mems_declared rest) d) regs (regs_more p core t n b (omega arith) regs) typed.0 o.0,
          stages_end (after scope (fsm start tested test state body last next)) (no_run run.values.elsewhere) (n + length (beside (fsm start tested test state body last next) rest ending) + length (inside (fsm start tested test state body last next))) rest ending c ran (declared_back p (mems_in (fsm start tested test state body last next)) (mems_declared rest) d) (begins p counters core t run.values.elsewhere r.values.1) (regs_more p core t n m (omega arith) regs) typed.1 o.1 en h own,
        ))
    stages_end scope run n (more_stmt (stmt place (branch test first second)) rest) ending c ran d r regs typed o en h own =
        let b : ℕ = n + length (beside (branch test first second) rest ending) in
        let m : ℕ = b + length (inside (branch test first second)) in
        run_pass p core t ending_one run.ops _ r.ops (early_pass p core t run.values.elsewhere r.values.1 ending_one scope ran n (branch test first second) (more_stage 0 0 false (node p.mems counters run.values.elsewhere n (n + length (beside (branch test first second) rest ending)) (branch test first second)) (stages p.mems counters (no_run run.values.elsewhere) (n + length (beside (branch test first second) rest ending) + length (inside (branch test first second))) rest ending c)) typed.0 o.0 regs (
          node_passes p counters core t scope (branch test first second) run.values.elsewhere n (n + length (beside (branch test first second) rest ending)) r.values.1 ran (declared_front p (mems_in (branch test first second)) (mems_declared rest) d) regs (regs_more p core t n b (omega arith) regs) typed.0 o.0,
          stages_end (after scope (branch test first second)) (no_run run.values.elsewhere) (n + length (beside (branch test first second) rest ending) + length (inside (branch test first second))) rest ending c ran (declared_back p (mems_in (branch test first second)) (mems_declared rest) d) (begins p counters core t run.values.elsewhere r.values.1) (regs_more p core t n m (omega arith) regs) typed.1 o.1 en h own,
        ))
