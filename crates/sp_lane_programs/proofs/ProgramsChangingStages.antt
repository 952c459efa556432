-- What the nodes and the stages of the core of a program change: memories of the program, and registers from a number on.
use Rattle.std.proofs.Common.{ℕ, suc, ◌+◌, ◌==◌, Bool, true, false, cond, List, [], ◌∷◌, ◌++◌, length, map, Option, Some, None, refl, arith}
use Rattle.std.specs.Prelude.{IsTrue}
use Rattle.sp_words.specs.declared.kind.Kind.TheVariants.{Reg, Sram, LineBuf}
use Rattle.sp_words.specs.declared.kind.Style.{Style}
use Rattle.sp_words.specs.declared.kind.Style.TheVariants.{Pipe}
use Rattle.sp_tree.specs.declared.statement.Comb.{Comb}
use Rattle.sp_tree.specs.Expressions.{mem, dims}
use Rattle.sp_tree.specs.Footprint.{Names}
use Rattle.sp_tree.specs.PlainExpression.{PlainExpr, type_of}
use Rattle.sp_tree.specs.PlainProgram.{PlainProgram}
use Rattle.sp_tree.specs.PlainStatement as tree
use Rattle.sp_tree.specs.PlainStatement.{PlainStmtKind, PlainStmts, stmt, declare, name, set_reg, set_out, set_sram, enq, load_sram, load_line, store, gather, scatter, block, foreach, reduce, mem_reduce, fsm, branch, no_stmt, more_stmt}
use Rattle.sp_tree.specs.Structure.{mems_declared, mems_in, own_mems, is_inner, slice_lanes}
use Rattle.sp_tree.specs.Tallies.{Tally, primitive}
use Rattle.sp_tree.specs.Typing.{Scope, BodyTyped, StmtTyped, after, after_all, with_counters, with_val}
use Rattle.sp_core.specs.PlainCore.{PlainOp, PlainCounter, PlainNode, PlainStages, PlainCore, no_stage, more_stage}
use Rattle.sp_sugar.specs.Early.{bounds_of, is_early, is_early_part, registers_for, counters_of, early_stages}
use Rattle.sp_sugar.specs.Numbers.{mem_number}
use Rattle.sp_sugar.specs.Operations.{Code, alone, read_op, write_op, code}
use Rattle.sp_sugar.specs.Registers.{ending_of, beside, inside, registers_in, owned_registers}
use Rattle.sp_sugar.specs.Runs.{Run, no_run, next_code, with_stmt, inner_run}
use Rattle.sp_sugar.specs.Stages.{run_stage, first_of, Combines, nothing, folds, reduces, reduces_elements, combines, combination_stage, inner_node, last_stages, style_of, outer_node, body_node, stages, node}
use Rattle.sp_sugar.specs.Uses.{Ending, no_more, in_last_run, in_combination}
use Rattle.sp_sugar.specs.Values.{Sources, with_state}
use Rattle.sp_sugar.proofs.Entering.{own_declared}
use Rattle.sp_sugar.proofs.NodeSteps.{ending_is}
use Rattle.sp_lane_cores.proofs.LanedNaming.{InRange, Declared, declared_front, declared_back, range_after}
use Rattle.sp_lane_cores.proofs.LanedParting.{first_has, range_loops, range_all}
use Rattle.sp_lane_trees.specs.ReductionsChanges.{CountersChange, NodeChanges, StagesChange}
use Rattle.sp_lane_programs.proofs.ProgramsChanging.{Chips, is_chip, chip_passes, names_pass, Change, change_append, IsPassed, code_changes, next_changes, stmt_changes, inner_changes, Regs, regs_more, all_append, owned_pass, own_changes, bound_parts, slice_parts, run_changes, list_changes, from_changes, loops_change, spans_change, early_changes, CombChanges, combination_changes, element_changes}

module _ (p : PlainProgram) (counters : ℕ) (core : PlainCore) (t : Chips p) where
  abbrev Ops : List PlainOp → Type 0
  Ops ops = Change p core t ops

  abbrev Passed : ℕ → Type 0
  Passed r = IsPassed p core t r

  abbrev From : ℕ → Type 0
  From n = Regs p core t n

  abbrev Stages : PlainStages → Type 0
  Stages xs = StagesChange core t.is xs

  abbrev Node : PlainNode → Type 0
  Node x = NodeChanges core t.is x

  abbrev Word : PlainExpr → Type 0
  Word e = Names (is_chip p core t) e

  -- the word that a body's end hands on
  abbrev pub EndChanges : Ending → Type 0
  EndChanges no_more = Unit {0}
  EndChanges (in_last_run e) = Word e
  EndChanges (in_combination e) = Word e

  pub ending_changes : (loops : List tree.PlainCounter) (e : PlainExpr) → Word e → EndChanges (ending_of loops e)
  ending_changes loops e h = ending_is EndChanges loops e h h

  pub combines_changes : (fold : Bool) (acc begun : ℕ) (comb : Comb) (e : PlainExpr) → IsTrue (is_chip p core t acc) → Passed begun → Word e → CombChanges p core t (combines p.mems fold acc begun comb e)
  combines_changes true acc begun comb e h k l = (h, l)
  combines_changes false acc begun comb e h k l = (h, k, l)

  last_run : (run : Run) (n : ℕ) (e : PlainExpr) (rest : PlainStages) → Ops run.ops → Word e → Passed n → Stages rest → Stages (run_stage (run.ops ++ (next_code p.mems run e).ops ++ write_op (type_of e) n ((next_code p.mems run e).word ∷ []) ∷ []) rest)
  last_run run n e rest r o h k =
      let x : Code = next_code p.mems run e in
      run_changes p core t (run.ops ++ x.ops ++ write_op (type_of e) n (x.word ∷ []) ∷ []) rest
      (change_append p core t (run.ops ++ x.ops) (write_op (type_of e) n (x.word ∷ []) ∷ []) (change_append p core t run.ops x.ops r (next_changes p core t run e o)) (h, tt)) k

  comb_stage : (x : Code) (c : Combines) → Ops x.ops → CombChanges p core t c → Stages (combination_stage p.mems counters x c)
  comb_stage x c h k = (combination_changes p core t counters [] x c [] [] tt h k tt tt, tt)

  last_changes : (run : Run) (n : ℕ) (ending : Ending) (c : Combines) → Ops run.ops → From n → EndChanges ending → CombChanges p core t c → Stages (last_stages p.mems counters run n ending c)
  last_changes run n ending (reduces_elements part acc begun comb) r regs en h = run_changes p core t run.ops _ r (element_changes p core t counters (dims p.mems part) part acc begun (mem p.mems part).ty comb h.0 h.1 h.2, tt)
  last_changes run n no_more nothing r regs en h = run_changes p core t run.ops no_stage r tt
  last_changes run n (in_combination x) nothing r regs en h = run_changes p core t run.ops _ r (comb_stage (code p.mems run.values.elsewhere 0 x) nothing (code_changes p core t run.values.elsewhere x 0 en) h)
  last_changes run n (in_last_run x) nothing r regs en h = last_run run n x _ r en (regs n (omega arith)) (comb_stage (alone 0 (read_op (type_of x) n [])) nothing (tt, tt) h)
  last_changes run n no_more (folds acc comb e) r regs en h = run_changes p core t run.ops no_stage r tt
  last_changes run n (in_combination x) (folds acc comb e) r regs en h = run_changes p core t run.ops _ r (comb_stage (code p.mems run.values.elsewhere 0 x) (folds acc comb e) (code_changes p core t run.values.elsewhere x 0 en) h)
  last_changes run n (in_last_run x) (folds acc comb e) r regs en h = last_run run n x _ r en (regs n (omega arith)) (comb_stage (alone 0 (read_op (type_of x) n [])) (folds acc comb e) (tt, tt) h)
  last_changes run n no_more (reduces acc begun comb e) r regs en h = run_changes p core t run.ops no_stage r tt
  last_changes run n (in_combination x) (reduces acc begun comb e) r regs en h = run_changes p core t run.ops _ r (comb_stage (code p.mems run.values.elsewhere 0 x) (reduces acc begun comb e) (code_changes p core t run.values.elsewhere x 0 en) h)
  last_changes run n (in_last_run x) (reduces acc begun comb e) r regs en h = last_run run n x _ r en (regs n (omega arith)) (comb_stage (alone 0 (read_op (type_of x) n [])) (reduces acc begun comb e) (tt, tt) h)

  inner_node_changes : (sources : Sources) (scope : Scope) (loops : List PlainCounter) (body : PlainStmts) (c : Combines) → InRange p scope → Declared p (mems_declared body) → BodyTyped p scope body → CombChanges p core t c → CountersChange core t.is loops
      → Node (inner_node p.mems counters sources loops body c)
  inner_node_changes sources scope loops body nothing ran d typed h k = (k, own_changes p core t body d, inner_changes p core t (no_run sources) scope body ran d tt typed)
  inner_node_changes sources scope loops body (folds acc comb e) ran d typed h k =
      let run : Run = inner_run p.mems (no_run sources) body in
      combination_changes p core t counters run.ops (next_code p.mems run e) (folds acc comb e) loops (map (mem_number p.mems) (own_mems body)) (inner_changes p core t (no_run sources) scope body ran d tt typed) (next_changes p core t run e h.1) h k (own_changes p core t body d)
  inner_node_changes sources scope loops body (reduces acc begun comb e) ran d typed h k =
      let run : Run = inner_run p.mems (no_run sources) body in
      combination_changes p core t counters run.ops (next_code p.mems run e) (reduces acc begun comb e) loops (map (mem_number p.mems) (own_mems body)) (inner_changes p core t (no_run sources) scope body ran d tt typed) (next_changes p core t run e h.2) h k (own_changes p core t body d)
  inner_node_changes sources scope loops body (reduces_elements part acc begun comb) ran d typed h k = (k, own_changes p core t body d, inner_changes p core t (no_run sources) scope body ran d tt typed)

  outer_changes : (n : ℕ) (loops : List PlainCounter) (style : Style) (body : PlainStmts) (ending : Ending) (all : PlainStages) → Declared p (mems_declared body) → From n → CountersChange core t.is loops → Stages all
      → Node (outer_node p.mems counters n loops style body ending all)
  outer_changes n loops style body ending all d regs k l =
      (k, all_append p core t (map (mem_number p.mems) (own_mems body)) (owned_registers n body ending) (own_changes p core t body d) (owned_pass p core t n body ending regs), l)

  body_changes : (sources : Sources) (n : ℕ) (scope : Scope) (loops : List PlainCounter) (style : Style) (body : PlainStmts) (ending : Ending) (c : Combines) (all : PlainStages) → InRange p scope → Declared p (mems_declared body) → BodyTyped p scope body → CombChanges p core t c → From n → CountersChange core t.is loops → Stages all
      → Node (body_node p.mems counters sources n loops style body ending c all)
  body_changes sources n scope loops style body ending c all ran d typed h regs k l = by (is_inner body)
    where
      by : (b : Bool) → Node (cond b (inner_node p.mems counters sources loops body c) (outer_node p.mems counters n loops style body ending all))
      by true = inner_node_changes sources scope loops body c ran d typed h k
      by false = outer_changes n loops style body ending all d regs k l

  either_changes : (b : Bool) (x y : PlainNode) → Node x → Node y → Node (cond b x y)
  either_changes true x y h k = h
  either_changes false x y h k = k

  choose : (o : Option Tally) (xs : Tally → PlainStages) (ys : PlainStages) → ((s : Tally) → Stages (xs s)) → Stages ys → Stages (elim o as (λ _. PlainStages) [ Some s ↦ xs s | None ↦ ys ])
  choose (Some s) xs ys f g = f s
  choose None xs ys f g = g

  mutual
    unfolding stages node

    pub stages_change : (scope : Scope) (run : Run) (n : ℕ) (body : PlainStmts) (ending : Ending) (c : Combines) → InRange p scope → Declared p (mems_declared body) → Ops run.ops → From n → BodyTyped p scope body → EndChanges ending → CombChanges p core t c
        → Stages (stages p.mems counters run n body ending c)
    stages_change scope run n no_stmt ending c ran d r regs typed en h = last_changes run n ending c r regs en h
    stages_change scope run n (more_stmt (stmt place k) rest) ending c ran d r regs typed en h =
        let b : ℕ = n + length (beside k rest ending) in
        let m : ℕ = b + length (inside k) in
        let here : Declared p (mems_in k) = declared_front p (mems_in k) (mems_declared rest) d in
        let others : Declared p (mems_declared rest) = declared_back p (mems_in k) (mems_declared rest) d in
        let within : InRange p (after scope k) = range_after p scope k ran here in
        choose (primitive k)
        (λ s. stages p.mems counters (with_stmt p.mems false (first_of n (beside k rest ending)) run k) b rest ending c)
        (run_stage run.ops (early_stages p.mems run.values.elsewhere n k (more_stage 0 0 false (node p.mems counters run.values.elsewhere n b k) (stages p.mems counters (no_run run.values.elsewhere) m rest ending c))))
        (λ s. stages_change (after scope k) (with_stmt p.mems false (first_of n (beside k rest ending)) run k) b rest ending c within others
        (stmt_changes p core t false (first_of n (beside k rest ending)) run scope k ran here r (first_has (IsPassed p core t) n (beside k rest ending) (regs n (omega arith))) typed.0) (regs_more p core t n b (omega arith) regs) typed.1 en h)
        (run_changes p core t run.ops _ r (early_changes p core t run.values.elsewhere scope ran n k _ typed.0 regs (
          node_changes scope k run.values.elsewhere n b ran here regs (regs_more p core t n b (omega arith) regs) typed.0,
          stages_change (after scope k) (no_run run.values.elsewhere) m rest ending c within others tt (regs_more p core t n m (omega arith) regs) typed.1 en h,
        )))

    pub node_changes : (scope : Scope) (k : PlainStmtKind) (sources : Sources) (b n : ℕ) → InRange p scope → Declared p (mems_in k) → From b → From n → StmtTyped p scope k → Node (node p.mems counters sources b n k)
    node_changes scope (load_sram sram dram spans) sources b n ran d low regs typed =
        let names = spans_change p core t sources (is_early_part spans) b spans (slice_parts p core t scope ran spans typed.1.spans_typed) low in
        let m = chip_passes p core t scope sram Sram (mem p.mems sram).ty ran typed.0 refl in
        either_changes (slice_lanes spans == 1) _ _ (m, names) (m, names, tt)
    node_changes scope (load_line line dram spans) sources b n ran d low regs typed =
        let names = spans_change p core t sources (is_early_part spans) b spans (slice_parts p core t scope ran spans typed.1.spans_typed) low in
        let m = chip_passes p core t scope line LineBuf (mem p.mems line).ty ran typed.0 refl in
        either_changes (slice_lanes spans == 1) _ _ (m, names) (m, names, tt)
    node_changes scope (store dram spans sram) sources b n ran d low regs typed =
        let names = spans_change p core t sources (is_early_part spans) b spans (slice_parts p core t scope ran spans typed.1.spans_typed) low in
        let m = chip_passes p core t scope sram Sram (mem p.mems sram).ty ran typed.0 refl in
        either_changes (slice_lanes spans == 1) _ _ names (m, names, tt)
    node_changes scope (gather sram dram places e) sources b n ran d low regs typed =
        (chip_passes p core t scope sram Sram (mem p.mems sram).ty ran typed.0 refl, tt, from_changes p core t sources is_early b e (names_pass p core t scope ran e typed.1.how_many.0.0) (low b (omega arith)))
    node_changes scope (scatter dram places e sram) sources b n ran d low regs typed =
        (chip_passes p core t scope sram Sram (mem p.mems sram).ty ran typed.0 refl, tt, from_changes p core t sources is_early b e (names_pass p core t scope ran e typed.1.how_many.0.0) (low b (omega arith)))
    node_changes scope (block style body) sources b n ran d low regs typed =
        body_changes sources n scope [] (style_of p.mems counters style body) body no_more nothing _ ran d typed tt regs tt (stages_change scope (no_run sources) n body no_more nothing ran d tt regs typed tt tt)
    node_changes scope (foreach style loops body) sources b n ran d low regs typed =
        let within : InRange p (with_counters scope loops) = range_loops p scope loops ran in
        let bounds = loops_change p core t sources b loops (bound_parts p core t scope ran loops typed.1.bounds) low in
        body_changes sources n (with_counters scope loops) (counters_of p.mems sources b loops) style body no_more nothing _ within d typed.2 tt regs bounds (stages_change (with_counters scope loops) (no_run sources) n body no_more nothing within d tt regs typed.2 tt tt)
    node_changes scope (reduce style fold acc loops body e comb) sources b n ran d low regs typed =
        let begun : ℕ = b + length (registers_for is_early (bounds_of loops)) in
        let c : Combines = combines p.mems fold acc begun comb e in
        let within : InRange p (with_counters scope loops) = range_loops p scope loops ran in
        let bounds = loops_change p core t sources b loops (bound_parts p core t scope ran loops typed.1.bounds) low in
        let word : Word e = names_pass p core t (after_all (with_counters scope loops) body) (range_all p (with_counters scope loops) body within d) e typed.5 in
        let h : CombChanges p core t c = combines_changes fold acc begun comb e (chip_passes p core t scope acc Reg (type_of e) ran typed.3 refl) (low begun (omega arith)) word in
        body_changes sources n (with_counters scope loops) (counters_of p.mems sources b loops) style body (ending_of loops e) c _ within d typed.2 h regs bounds
        (stages_change (with_counters scope loops) (no_run sources) n body (ending_of loops e) c within d tt regs typed.2 (ending_changes loops e word) h)
    node_changes scope (mem_reduce style acc loops body part comb) sources b n ran d low regs typed =
        let begun : ℕ = b + length (registers_for is_early (bounds_of loops)) in
        let c : Combines = reduces_elements part (mem_number p.mems acc) begun comb in
        let within : InRange p (with_counters scope loops) = range_loops p scope loops ran in
        let bounds = loops_change p core t sources b loops (bound_parts p core t scope ran loops typed.1.bounds) low in
        let is = d part (own_declared body part typed.6) in
        let h : CombChanges p core t c = (chip_passes p core t scope acc Sram (mem p.mems acc).ty ran typed.3 refl, low begun (omega arith), t.chips part is.0 is.1) in
        outer_changes n (counters_of p.mems sources b loops) style body no_more _ d regs bounds (stages_change (with_counters scope loops) (no_run sources) n body no_more c within d tt regs typed.2 tt h)
    node_changes scope (fsm start tested test state body last next) sources b n ran d low regs typed =
        let kept : Sources = with_state sources tested state last n in
        let more : From (suc n) = regs_more p core t n (suc n) (omega arith) regs in
        let inside : Scope = with_val scope state (type_of start) in (
          list_changes p core t sources start (names_pass p core t scope ran start typed.0.0.0),
          regs n (omega arith),
          list_changes p core t kept test (names_pass p core t (with_val scope tested (type_of start)) ran test typed.2.0.0),
          body_changes kept (suc n) inside [] Pipe body no_more nothing _ ran d typed.4 tt more tt (stages_change inside (no_run kept) (suc n) body no_more nothing ran d tt more typed.4 tt tt),
          list_changes p core t kept next (names_pass p core t (with_val scope last (type_of start)) ran next typed.6.0.0),
        )
    node_changes scope (branch test first second) sources b n ran d low regs typed =
        let m : ℕ = n + length (registers_in first no_more) in
        let later : From m = regs_more p core t n m (omega arith) regs in
        let df : Declared p (mems_declared first) = declared_front p (mems_declared first) (mems_declared second) d in
        let ds : Declared p (mems_declared second) = declared_back p (mems_declared first) (mems_declared second) d in (
          list_changes p core t sources test (names_pass p core t scope ran test typed.0.0.0),
          body_changes sources n scope [] Pipe first no_more nothing _ ran df typed.1 tt regs tt (stages_change scope (no_run sources) n first no_more nothing ran df tt regs typed.1 tt tt),
          body_changes sources m scope [] Pipe second no_more nothing _ ran ds typed.2 tt later tt (stages_change scope (no_run sources) m second no_more nothing ran ds tt later typed.2 tt tt),
        )
    node_changes scope (declare m) sources b n ran d low regs typed = (tt, tt, tt)
    node_changes scope (name v x) sources b n ran d low regs typed = (tt, tt, tt)
    node_changes scope (set_reg m x) sources b n ran d low regs typed = (tt, tt, tt)
    node_changes scope (set_out m x) sources b n ran d low regs typed = (tt, tt, tt)
    node_changes scope (set_sram m xs x) sources b n ran d low regs typed = (tt, tt, tt)
    node_changes scope (enq m x) sources b n ran d low regs typed = (tt, tt, tt)
