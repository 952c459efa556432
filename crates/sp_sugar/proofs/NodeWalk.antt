-- The nodes of a body and of a statement keep the rules, each by what stands around it.
use Rattle.std.proofs.Common.{◌≡◌, ℕ, suc, ◌+◌, ◌*◌, ◌<◌, ◌≤◌, Bool, true, false, not, ◌||◌, List, [], ◌∷◌, ◌++◌, None, refl, sym, ◌∙◌, ap, subst, arith, ◌==◌}
use Rattle.std.proofs.lemmas.Bool.{and_from, le-leb, or_left, or_right}
use Rattle.std.proofs.lemmas.Nat.{mul-le}
use Rattle.std.specs.Prelude.{length}
use Rattle.sp_words.specs.declared.kind.Kind.TheVariants.{Reg, Sram, ArgOut}
use Rattle.sp_words.specs.declared.kind.Style.TheVariants.{Pipe}
use Rattle.sp_words.specs.declared.types.Ty.{Ty}
use Rattle.sp_words.specs.declared.types.Ty.TheVariants.{Bit}
use Rattle.sp_words.specs.Types.{int_type}
use Rattle.sp_tree.specs.Counts.{lanes_in, kind_lanes}
use Rattle.sp_tree.specs.Expressions as expressions
use Rattle.sp_tree.specs.Declarations.{HasRank}
use Rattle.sp_tree.specs.Meaning.{is_dram}
use Rattle.sp_tree.specs.PlainExpression.{type_of}
use Rattle.sp_tree.specs.PlainProgram.{PlainProgram}
use Rattle.sp_tree.specs.PlainStatement.{PlainCounter, PlainStmtKind, PlainStmts, stmt, declare, name, set_reg, set_out, set_sram, enq, load_sram, load_line, store, gather, scatter, block, foreach, reduce, mem_reduce, fsm, branch, no_stmt, more_stmt}
use Rattle.sp_tree.specs.Structure.{own_mems, mems_declared, mems_in, depth, depth_in, is_inner, slice_lanes}
use Rattle.sp_tree.specs.Structure as structure
use Rattle.sp_tree.specs.Typing.{Scope, with_mem, with_val, with_counters, IsMem, CountersTyped, StmtTyped, after_all}
use Rattle.sp_core.specs.Around.{Around, within}
use Rattle.sp_core.specs.Declarations.{mem}
use Rattle.sp_core.specs.NodeRules.{are_counters_right, is_reg}
use Rattle.sp_core.specs.OperationRules.{is_word_list}
use Rattle.sp_core.specs.PlainCore as core_tree
use Rattle.sp_core.specs.PlainCore.{PlainCore, PlainNode, PlainStages, more_stage}
use Rattle.sp_core.specs.declared.node.SparseKind.TheVariants.{WideLoad, WideStore}
use Rattle.sp_sugar.specs.Agreement.{HasMemories}
use Rattle.sp_sugar.specs.Early.{bounds_of, parts_of, spans_of, is_early, is_early_part, registers_for, counters_of}
use Rattle.sp_sugar.specs.Laws.{CombinesRightly}
use Rattle.sp_sugar.specs.Numbers.{is_off_dram, mem_number, dram_number, begun_register, state_register, numbers_from, written_mem}
use Rattle.sp_sugar.specs.Operations.{word_list}
use Rattle.sp_sugar.specs.Registers.{ending_of, beside, inside, registers, registers_in, owned_registers}
use Rattle.sp_sugar.specs.Rules.{IsRegister, IsElements, MayNeed}
use Rattle.sp_sugar.specs.Runs.{Run, no_run, with_named, with_stmt}
use Rattle.sp_sugar.specs.Stages.{first_of, Combines, nothing, reduces_elements, combines, style_of, stages, node}
use Rattle.sp_sugar.specs.Uses.{uses, is_bare, counters_use, are_using, is_using, names_after, Ending, no_more, ending_uses, does_cross}
use Rattle.sp_sugar.specs.Values.{Sources}
use Rattle.sp_sugar.specs.Values as values
use Rattle.sp_sugar.proofs.ElementKeeps.{loop_right}
use Rattle.sp_sugar.proofs.Endings.{Ends, fold_ends, reduce_ends, last_good, last_some}
use Rattle.sp_sugar.proofs.Entering.{counters_numbers, counters_length, counters_lanes, around_length, Chips, usable_within, register_within, within_need, own_within, Going, last_kept, state_kept, tested_kept, state_need}
use Rattle.sp_sugar.proofs.MemoryLemmas.{chip_mem}
use Rattle.sp_sugar.proofs.NodeParts.{dram_ports, one_mul, some_lanes, word_is, counters_right}
use Rattle.sp_sugar.proofs.OwnerCounts.{IsStageKind}
use Rattle.sp_sugar.proofs.Placed.{Has, among_left, Placed, placed_left, placed_right, first_register, early_at}
use Rattle.sp_sugar.proofs.RightNodes.{NodesRight}
use Rattle.sp_sugar.proofs.RunKeeps.{in_front, in_back, named_keeps, write_keeps, sram_keeps, enq_keeps, declare_keeps}
use Rattle.sp_sugar.proofs.Transfers.{load_right, store_right, line_right, pick_right}
use Rattle.sp_sugar.proofs.UseLemmas.{used, only}
use Rattle.sp_sugar.proofs.NodeSteps.{or_none, or_middle, lanes_least, ending_is, ending_used, Result, own_numbers, placed_here, placed_inside, has_here, plain_going, stage_going, stage_need, kind_chips, kind_deep, kind_wide, stage_result, crosses, enter, outer_right, body_right, inside_of, placed_outer, no_loops, load_nodes, store_nodes, has_both}

or_left_middle : (a b c : Bool) → (b || c) ≡ true → ((a || b) || c) ≡ true
or_left_middle a b c e = or_middle a b c e

module _ (p : PlainProgram) (core : PlainCore) (h : HasMemories p core) (drams : core.ports.drams ≡ dram_ports p.mems) where
  -- the counters of a loop
  loops_right : (around : Around) (scope : Scope) (sources : Sources) (needed : ℕ → Bool) (b : ℕ) (loops : List PlainCounter) → MayNeed core around p scope sources needed → CountersTyped p scope loops
      → ((j : ℕ) → b ≤ j → j < b + length (registers_for is_early (bounds_of loops)) → IsRegister core around j int_type) → ((v : ℕ) → counters_use (only v) loops ≡ true → needed v ≡ true) → structure.lanes_of loops ≤ 16 → length loops + length around.counters ≤ 1000
      → are_counters_right core around (counters_of p.mems sources b loops) ≡ true
  loops_right around scope sources needed b loops need typed regs f lanes near =
      let n : length (counters_of p.mems sources b loops) ≡ length loops = counters_length p sources b loops in
      let m : length loops ≤ 4 = typed.one_to_four.1 in
      and_from _ _ (and_from _ _ (le-leb (length (counters_of p.mems sources b loops)) 4 (omega (arith, n, m))) (le-leb (length (counters_of p.mems sources b loops) + length around.counters) 1000 (omega (arith, n, near))))
      (counters_right p core h around scope sources needed need b loops regs typed.bounds f lanes)

  -- a register of the program
  reg_there : (around : Around) (scope : Scope) (sources : Sources) (needed : ℕ → Bool) (m : ℕ) (ty : Ty) → MayNeed core around p scope sources needed → IsMem p scope m Reg ty → IsRegister core around (mem_number p.mems m) ty
  reg_there around scope sources needed m ty need is =
      let off : is_off_dram (expressions.mem p.mems m) ≡ true = ap (λ x. not (is_dram x)) is.is_kind in
      let x = need.mems m is.seen off in
      let e : mem core (mem_number p.mems m) ≡ written_mem (expressions.mem p.mems m) = chip_mem p core h m x.0 off in
      record { usable = x.1; is_kind = ap (λ (y : core_tree.PlainMem). y.kind) e ∙ is.is_kind; is_type = ap (λ (y : core_tree.PlainMem). y.ty) e ∙ is.is_type }

  sram_there : (around : Around) (scope : Scope) (sources : Sources) (needed : ℕ → Bool) (m : ℕ) (ty : Ty) (rank : ℕ) → MayNeed core around p scope sources needed → IsMem p scope m Sram ty → length (expressions.mem p.mems m).dims ≡ rank → IsElements core around (mem_number p.mems m) ty rank
  sram_there around scope sources needed m ty rank need is dims =
      let off : is_off_dram (expressions.mem p.mems m) ≡ true = ap (λ x. not (is_dram x)) is.is_kind in
      let x = need.mems m is.seen off in
      let e : mem core (mem_number p.mems m) ≡ written_mem (expressions.mem p.mems m) = chip_mem p core h m x.0 off in
      record { usable = x.1; is_kind = ap (λ (y : core_tree.PlainMem). y.kind) e ∙ is.is_kind; is_type = ap (λ (y : core_tree.PlainMem). y.ty) e ∙ is.is_type; has_rank = ap (λ (y : core_tree.PlainMem). length y.dims) e ∙ dims }

  elements_within : (around : Around) (loops : List core_tree.PlainCounter) (owned : List ℕ) (r : ℕ) (ty : Ty) (rank : ℕ) → IsElements core around r ty rank → IsElements core (within around loops owned) r ty rank
  elements_within around loops owned r ty rank i = record { usable = usable_within p core h around loops owned r i.usable; is_kind = i.is_kind; is_type = i.is_type; has_rank = i.has_rank }

  slice_few : (lanes : ℕ) (spans : List _) → lanes * slice_lanes spans ≤ 16 → 1 ≤ lanes → slice_lanes spans ≤ 16
  slice_few lanes spans wide some = let f : slice_lanes spans ≤ lanes * slice_lanes spans = one_mul lanes (slice_lanes spans) some in omega (arith, f, wide)

  mutual
    unfolding stages node registers inside

    pub stages_right : (body : PlainStmts) (ending : Ending) (c : Combines) (around : Around) (scope : Scope) (run : Run) (n lanes : ℕ) → Going p core h around scope run n body ending lanes → Ends p core h around (after_all scope body) ending c
        → Result p core h drams around body c (stages p.mems (length p.counters) run n body ending c)
    stages_right no_stmt ending c around scope run n lanes g ends =
        let d : length around.counters + 4 * 0 ≤ 260 = g.deep in
        (last_good p core h around (omega (arith, d)) scope run n ending c g.run_right g.placed g.has ends, λ e. last_some p run n ending c e)
    stages_right (more_stmt (stmt place (declare m)) rest) ending c around scope run n lanes g ends =
        stages_right rest ending c around (with_mem scope m) run (n + length (beside (declare m) rest ending)) lanes
        (plain_going p core h drams around scope run n place (declare m) rest ending lanes g refl (with_mem scope m) run (declare_keeps p core h around false None scope run place rest ending m g.run_right) g.typed.1) ends
    stages_right (more_stmt (stmt place (name v e)) rest) ending c around scope run n lanes g ends =
        stages_right rest ending c around (with_val scope v (type_of e)) (with_named p.mems run v e (first_of n (beside (name v e) rest ending))) (n + length (beside (name v e) rest ending)) lanes
        (plain_going p core h drams around scope run n place (name v e) rest ending lanes g refl (with_val scope v (type_of e)) (with_named p.mems run v e (first_of n (beside (name v e) rest ending))) (named_keeps p core h around false (first_of n (beside (name v e) rest ending)) scope run place rest ending v e g.run_right g.typed.0.0 g.typed.0.1 (λ bare. crosses p core h drams around n (is_bare e) (does_cross v rest ending) (type_of e) (placed_here p core h drams around n place (name v e) rest ending g.placed) (has_here p core h drams around n place (name v e) rest ending g.has) bare)) g.typed.1) ends
    stages_right (more_stmt (stmt place (set_reg m e)) rest) ending c around scope run n lanes g ends =
        stages_right rest ending c around scope (with_stmt p.mems false None run (set_reg m e)) (n + length (beside (set_reg m e) rest ending)) lanes
        (plain_going p core h drams around scope run n place (set_reg m e) rest ending lanes g refl scope (with_stmt p.mems false None run (set_reg m e)) (write_keeps p core h around false None scope run place rest ending (set_reg m e) m Reg e g.run_right g.typed.0.0 refl (λ s. refl) refl g.typed.0.1 (λ v u. u) refl (λ v u. u)) g.typed.1) ends
    stages_right (more_stmt (stmt place (set_out m e)) rest) ending c around scope run n lanes g ends =
        stages_right rest ending c around scope (with_stmt p.mems false None run (set_out m e)) (n + length (beside (set_out m e) rest ending)) lanes
        (plain_going p core h drams around scope run n place (set_out m e) rest ending lanes g refl scope (with_stmt p.mems false None run (set_out m e)) (write_keeps p core h around false None scope run place rest ending (set_out m e) m ArgOut e g.run_right g.typed.0.0 refl (λ s. refl) refl g.typed.0.1 (λ v u. u) refl (λ v u. u)) g.typed.1) ends
    stages_right (more_stmt (stmt place (set_sram m xs e)) rest) ending c around scope run n lanes g ends =
        stages_right rest ending c around scope (with_stmt p.mems false None run (set_sram m xs e)) (n + length (beside (set_sram m xs e) rest ending)) lanes
        (plain_going p core h drams around scope run n place (set_sram m xs e) rest ending lanes g refl scope (with_stmt p.mems false None run (set_sram m xs e)) (sram_keeps p core h around false None scope run place rest ending m xs e g.run_right g.typed.0) g.typed.1) ends
    stages_right (more_stmt (stmt place (enq m e)) rest) ending c around scope run n lanes g ends =
        stages_right rest ending c around scope (with_stmt p.mems false None run (enq m e)) (n + length (beside (enq m e) rest ending)) lanes
        (plain_going p core h drams around scope run n place (enq m e) rest ending lanes g refl scope (with_stmt p.mems false None run (enq m e)) (enq_keeps p core h around false None scope run place rest ending m e g.run_right g.typed.0) g.typed.1) ends
    stages_right (more_stmt (stmt place (load_sram sram dram spans)) rest) ending c around scope run n lanes g ends =
        let need = stage_need p core h drams around scope run n place (load_sram sram dram spans) rest ending lanes g (λ v u. or_left (is_using (only v) (load_sram sram dram spans) || are_using (only v) rest) (ending_uses (names_after (only v) rest) ending) (or_left (is_using (only v) (load_sram sram dram spans)) (are_using (only v) rest) u)) in
        let here_placed = placed_here p core h drams around n place (load_sram sram dram spans) rest ending g.placed in
        let here_has = has_here p core h drams around n place (load_sram sram dram spans) rest ending g.has in
        let x = stage_result p core h drams around scope run n place (load_sram sram dram spans) rest ending lanes g (node p.mems (length p.counters) run.values.elsewhere n (n + length (beside (load_sram sram dram spans) rest ending)) (load_sram sram dram spans))
        (stages p.mems (length p.counters) (no_run run.values.elsewhere) (n + length (beside (load_sram sram dram spans) rest ending) + length (inside (load_sram sram dram spans))) rest ending c) need g.typed.0 here_placed here_has
        (node_right (load_sram sram dram spans) around scope run.values.elsewhere n (n + length (beside (load_sram sram dram spans) rest ending)) lanes tt need g.typed.0 here_placed here_has (placed_inside p core h drams around n place (load_sram sram dram spans) rest ending g.placed)
        (kind_chips p core h drams around scope run n place (load_sram sram dram spans) rest ending lanes g) (kind_deep p core h drams around scope run n place (load_sram sram dram spans) rest ending lanes g) (kind_wide p core h drams around scope run n place (load_sram sram dram spans) rest ending lanes g) g.some)
        (stages_right rest ending c around scope (no_run run.values.elsewhere) (n + length (beside (load_sram sram dram spans) rest ending) + length (inside (load_sram sram dram spans))) lanes (stage_going p core h drams around scope run n place (load_sram sram dram spans) rest ending lanes g (λ v u. or_middle (is_using (only v) (load_sram sram dram spans)) (are_using (only v) rest) (ending_uses (names_after (only v) rest) ending) u) refl g.typed.1) ends).0 in
        (x.0, λ e. x.1)
    stages_right (more_stmt (stmt place (load_line line dram spans)) rest) ending c around scope run n lanes g ends =
        let need = stage_need p core h drams around scope run n place (load_line line dram spans) rest ending lanes g (λ v u. or_left (is_using (only v) (load_line line dram spans) || are_using (only v) rest) (ending_uses (names_after (only v) rest) ending) (or_left (is_using (only v) (load_line line dram spans)) (are_using (only v) rest) u)) in
        let here_placed = placed_here p core h drams around n place (load_line line dram spans) rest ending g.placed in
        let here_has = has_here p core h drams around n place (load_line line dram spans) rest ending g.has in
        let x = stage_result p core h drams around scope run n place (load_line line dram spans) rest ending lanes g (node p.mems (length p.counters) run.values.elsewhere n (n + length (beside (load_line line dram spans) rest ending)) (load_line line dram spans))
        (stages p.mems (length p.counters) (no_run run.values.elsewhere) (n + length (beside (load_line line dram spans) rest ending) + length (inside (load_line line dram spans))) rest ending c) need g.typed.0 here_placed here_has
        (node_right (load_line line dram spans) around scope run.values.elsewhere n (n + length (beside (load_line line dram spans) rest ending)) lanes tt need g.typed.0 here_placed here_has (placed_inside p core h drams around n place (load_line line dram spans) rest ending g.placed)
        (kind_chips p core h drams around scope run n place (load_line line dram spans) rest ending lanes g) (kind_deep p core h drams around scope run n place (load_line line dram spans) rest ending lanes g) (kind_wide p core h drams around scope run n place (load_line line dram spans) rest ending lanes g) g.some)
        (stages_right rest ending c around scope (no_run run.values.elsewhere) (n + length (beside (load_line line dram spans) rest ending) + length (inside (load_line line dram spans))) lanes (stage_going p core h drams around scope run n place (load_line line dram spans) rest ending lanes g (λ v u. or_middle (is_using (only v) (load_line line dram spans)) (are_using (only v) rest) (ending_uses (names_after (only v) rest) ending) u) refl g.typed.1) ends).0 in
        (x.0, λ e. x.1)
    stages_right (more_stmt (stmt place (store dram spans sram)) rest) ending c around scope run n lanes g ends =
        let need = stage_need p core h drams around scope run n place (store dram spans sram) rest ending lanes g (λ v u. or_left (is_using (only v) (store dram spans sram) || are_using (only v) rest) (ending_uses (names_after (only v) rest) ending) (or_left (is_using (only v) (store dram spans sram)) (are_using (only v) rest) u)) in
        let here_placed = placed_here p core h drams around n place (store dram spans sram) rest ending g.placed in
        let here_has = has_here p core h drams around n place (store dram spans sram) rest ending g.has in
        let x = stage_result p core h drams around scope run n place (store dram spans sram) rest ending lanes g (node p.mems (length p.counters) run.values.elsewhere n (n + length (beside (store dram spans sram) rest ending)) (store dram spans sram))
        (stages p.mems (length p.counters) (no_run run.values.elsewhere) (n + length (beside (store dram spans sram) rest ending) + length (inside (store dram spans sram))) rest ending c) need g.typed.0 here_placed here_has
        (node_right (store dram spans sram) around scope run.values.elsewhere n (n + length (beside (store dram spans sram) rest ending)) lanes tt need g.typed.0 here_placed here_has (placed_inside p core h drams around n place (store dram spans sram) rest ending g.placed)
        (kind_chips p core h drams around scope run n place (store dram spans sram) rest ending lanes g) (kind_deep p core h drams around scope run n place (store dram spans sram) rest ending lanes g) (kind_wide p core h drams around scope run n place (store dram spans sram) rest ending lanes g) g.some)
        (stages_right rest ending c around scope (no_run run.values.elsewhere) (n + length (beside (store dram spans sram) rest ending) + length (inside (store dram spans sram))) lanes (stage_going p core h drams around scope run n place (store dram spans sram) rest ending lanes g (λ v u. or_middle (is_using (only v) (store dram spans sram)) (are_using (only v) rest) (ending_uses (names_after (only v) rest) ending) u) refl g.typed.1) ends).0 in
        (x.0, λ e. x.1)
    stages_right (more_stmt (stmt place (gather sram dram places e)) rest) ending c around scope run n lanes g ends =
        let need = stage_need p core h drams around scope run n place (gather sram dram places e) rest ending lanes g (λ v u. or_left (is_using (only v) (gather sram dram places e) || are_using (only v) rest) (ending_uses (names_after (only v) rest) ending) (or_left (is_using (only v) (gather sram dram places e)) (are_using (only v) rest) u)) in
        let here_placed = placed_here p core h drams around n place (gather sram dram places e) rest ending g.placed in
        let here_has = has_here p core h drams around n place (gather sram dram places e) rest ending g.has in
        let x = stage_result p core h drams around scope run n place (gather sram dram places e) rest ending lanes g (node p.mems (length p.counters) run.values.elsewhere n (n + length (beside (gather sram dram places e) rest ending)) (gather sram dram places e))
        (stages p.mems (length p.counters) (no_run run.values.elsewhere) (n + length (beside (gather sram dram places e) rest ending) + length (inside (gather sram dram places e))) rest ending c) need g.typed.0 here_placed here_has
        (node_right (gather sram dram places e) around scope run.values.elsewhere n (n + length (beside (gather sram dram places e) rest ending)) lanes tt need g.typed.0 here_placed here_has (placed_inside p core h drams around n place (gather sram dram places e) rest ending g.placed)
        (kind_chips p core h drams around scope run n place (gather sram dram places e) rest ending lanes g) (kind_deep p core h drams around scope run n place (gather sram dram places e) rest ending lanes g) (kind_wide p core h drams around scope run n place (gather sram dram places e) rest ending lanes g) g.some)
        (stages_right rest ending c around scope (no_run run.values.elsewhere) (n + length (beside (gather sram dram places e) rest ending) + length (inside (gather sram dram places e))) lanes (stage_going p core h drams around scope run n place (gather sram dram places e) rest ending lanes g (λ v u. or_middle (is_using (only v) (gather sram dram places e)) (are_using (only v) rest) (ending_uses (names_after (only v) rest) ending) u) refl g.typed.1) ends).0 in
        (x.0, λ e. x.1)
    stages_right (more_stmt (stmt place (scatter dram places e sram)) rest) ending c around scope run n lanes g ends =
        let need = stage_need p core h drams around scope run n place (scatter dram places e sram) rest ending lanes g (λ v u. or_left (is_using (only v) (scatter dram places e sram) || are_using (only v) rest) (ending_uses (names_after (only v) rest) ending) (or_left (is_using (only v) (scatter dram places e sram)) (are_using (only v) rest) u)) in
        let here_placed = placed_here p core h drams around n place (scatter dram places e sram) rest ending g.placed in
        let here_has = has_here p core h drams around n place (scatter dram places e sram) rest ending g.has in
        let x = stage_result p core h drams around scope run n place (scatter dram places e sram) rest ending lanes g (node p.mems (length p.counters) run.values.elsewhere n (n + length (beside (scatter dram places e sram) rest ending)) (scatter dram places e sram))
        (stages p.mems (length p.counters) (no_run run.values.elsewhere) (n + length (beside (scatter dram places e sram) rest ending) + length (inside (scatter dram places e sram))) rest ending c) need g.typed.0 here_placed here_has
        (node_right (scatter dram places e sram) around scope run.values.elsewhere n (n + length (beside (scatter dram places e sram) rest ending)) lanes tt need g.typed.0 here_placed here_has (placed_inside p core h drams around n place (scatter dram places e sram) rest ending g.placed)
        (kind_chips p core h drams around scope run n place (scatter dram places e sram) rest ending lanes g) (kind_deep p core h drams around scope run n place (scatter dram places e sram) rest ending lanes g) (kind_wide p core h drams around scope run n place (scatter dram places e sram) rest ending lanes g) g.some)
        (stages_right rest ending c around scope (no_run run.values.elsewhere) (n + length (beside (scatter dram places e sram) rest ending) + length (inside (scatter dram places e sram))) lanes (stage_going p core h drams around scope run n place (scatter dram places e sram) rest ending lanes g (λ v u. or_middle (is_using (only v) (scatter dram places e sram)) (are_using (only v) rest) (ending_uses (names_after (only v) rest) ending) u) refl g.typed.1) ends).0 in
        (x.0, λ e. x.1)
    stages_right (more_stmt (stmt place (block style body)) rest) ending c around scope run n lanes g ends =
        let need = stage_need p core h drams around scope run n place (block style body) rest ending lanes g (λ v u. or_left (is_using (only v) (block style body) || are_using (only v) rest) (ending_uses (names_after (only v) rest) ending) (or_left (is_using (only v) (block style body)) (are_using (only v) rest) u)) in
        let here_placed = placed_here p core h drams around n place (block style body) rest ending g.placed in
        let here_has = has_here p core h drams around n place (block style body) rest ending g.has in
        let x = stage_result p core h drams around scope run n place (block style body) rest ending lanes g (node p.mems (length p.counters) run.values.elsewhere n (n + length (beside (block style body) rest ending)) (block style body))
        (stages p.mems (length p.counters) (no_run run.values.elsewhere) (n + length (beside (block style body) rest ending) + length (inside (block style body))) rest ending c) need g.typed.0 here_placed here_has
        (node_right (block style body) around scope run.values.elsewhere n (n + length (beside (block style body) rest ending)) lanes tt need g.typed.0 here_placed here_has (placed_inside p core h drams around n place (block style body) rest ending g.placed)
        (kind_chips p core h drams around scope run n place (block style body) rest ending lanes g) (kind_deep p core h drams around scope run n place (block style body) rest ending lanes g) (kind_wide p core h drams around scope run n place (block style body) rest ending lanes g) g.some)
        (stages_right rest ending c around scope (no_run run.values.elsewhere) (n + length (beside (block style body) rest ending) + length (inside (block style body))) lanes (stage_going p core h drams around scope run n place (block style body) rest ending lanes g (λ v u. or_middle (is_using (only v) (block style body)) (are_using (only v) rest) (ending_uses (names_after (only v) rest) ending) u) refl g.typed.1) ends).0 in
        (x.0, λ e. x.1)
    stages_right (more_stmt (stmt place (foreach style loops body)) rest) ending c around scope run n lanes g ends =
        let need = stage_need p core h drams around scope run n place (foreach style loops body) rest ending lanes g (λ v u. or_left (is_using (only v) (foreach style loops body) || are_using (only v) rest) (ending_uses (names_after (only v) rest) ending) (or_left (is_using (only v) (foreach style loops body)) (are_using (only v) rest) u)) in
        let here_placed = placed_here p core h drams around n place (foreach style loops body) rest ending g.placed in
        let here_has = has_here p core h drams around n place (foreach style loops body) rest ending g.has in
        let x = stage_result p core h drams around scope run n place (foreach style loops body) rest ending lanes g (node p.mems (length p.counters) run.values.elsewhere n (n + length (beside (foreach style loops body) rest ending)) (foreach style loops body))
        (stages p.mems (length p.counters) (no_run run.values.elsewhere) (n + length (beside (foreach style loops body) rest ending) + length (inside (foreach style loops body))) rest ending c) need g.typed.0 here_placed here_has
        (node_right (foreach style loops body) around scope run.values.elsewhere n (n + length (beside (foreach style loops body) rest ending)) lanes tt need g.typed.0 here_placed here_has (placed_inside p core h drams around n place (foreach style loops body) rest ending g.placed)
        (kind_chips p core h drams around scope run n place (foreach style loops body) rest ending lanes g) (kind_deep p core h drams around scope run n place (foreach style loops body) rest ending lanes g) (kind_wide p core h drams around scope run n place (foreach style loops body) rest ending lanes g) g.some)
        (stages_right rest ending c around scope (no_run run.values.elsewhere) (n + length (beside (foreach style loops body) rest ending) + length (inside (foreach style loops body))) lanes (stage_going p core h drams around scope run n place (foreach style loops body) rest ending lanes g (λ v u. or_middle (is_using (only v) (foreach style loops body)) (are_using (only v) rest) (ending_uses (names_after (only v) rest) ending) u) refl g.typed.1) ends).0 in
        (x.0, λ e. x.1)
    stages_right (more_stmt (stmt place (reduce style fold acc loops body e comb)) rest) ending c around scope run n lanes g ends =
        let need = stage_need p core h drams around scope run n place (reduce style fold acc loops body e comb) rest ending lanes g (λ v u. or_left (is_using (only v) (reduce style fold acc loops body e comb) || are_using (only v) rest) (ending_uses (names_after (only v) rest) ending) (or_left (is_using (only v) (reduce style fold acc loops body e comb)) (are_using (only v) rest) u)) in
        let here_placed = placed_here p core h drams around n place (reduce style fold acc loops body e comb) rest ending g.placed in
        let here_has = has_here p core h drams around n place (reduce style fold acc loops body e comb) rest ending g.has in
        let x = stage_result p core h drams around scope run n place (reduce style fold acc loops body e comb) rest ending lanes g (node p.mems (length p.counters) run.values.elsewhere n (n + length (beside (reduce style fold acc loops body e comb) rest ending)) (reduce style fold acc loops body e comb))
        (stages p.mems (length p.counters) (no_run run.values.elsewhere) (n + length (beside (reduce style fold acc loops body e comb) rest ending) + length (inside (reduce style fold acc loops body e comb))) rest ending c) need g.typed.0 here_placed here_has
        (node_right (reduce style fold acc loops body e comb) around scope run.values.elsewhere n (n + length (beside (reduce style fold acc loops body e comb) rest ending)) lanes tt need g.typed.0 here_placed here_has (placed_inside p core h drams around n place (reduce style fold acc loops body e comb) rest ending g.placed)
        (kind_chips p core h drams around scope run n place (reduce style fold acc loops body e comb) rest ending lanes g) (kind_deep p core h drams around scope run n place (reduce style fold acc loops body e comb) rest ending lanes g) (kind_wide p core h drams around scope run n place (reduce style fold acc loops body e comb) rest ending lanes g) g.some)
        (stages_right rest ending c around scope (no_run run.values.elsewhere) (n + length (beside (reduce style fold acc loops body e comb) rest ending) + length (inside (reduce style fold acc loops body e comb))) lanes (stage_going p core h drams around scope run n place (reduce style fold acc loops body e comb) rest ending lanes g (λ v u. or_middle (is_using (only v) (reduce style fold acc loops body e comb)) (are_using (only v) rest) (ending_uses (names_after (only v) rest) ending) u) refl g.typed.1) ends).0 in
        (x.0, λ e. x.1)
    stages_right (more_stmt (stmt place (mem_reduce style acc loops body part comb)) rest) ending c around scope run n lanes g ends =
        let need = stage_need p core h drams around scope run n place (mem_reduce style acc loops body part comb) rest ending lanes g (λ v u. or_left (is_using (only v) (mem_reduce style acc loops body part comb) || are_using (only v) rest) (ending_uses (names_after (only v) rest) ending) (or_left (is_using (only v) (mem_reduce style acc loops body part comb)) (are_using (only v) rest) u)) in
        let here_placed = placed_here p core h drams around n place (mem_reduce style acc loops body part comb) rest ending g.placed in
        let here_has = has_here p core h drams around n place (mem_reduce style acc loops body part comb) rest ending g.has in
        let x = stage_result p core h drams around scope run n place (mem_reduce style acc loops body part comb) rest ending lanes g (node p.mems (length p.counters) run.values.elsewhere n (n + length (beside (mem_reduce style acc loops body part comb) rest ending)) (mem_reduce style acc loops body part comb))
        (stages p.mems (length p.counters) (no_run run.values.elsewhere) (n + length (beside (mem_reduce style acc loops body part comb) rest ending) + length (inside (mem_reduce style acc loops body part comb))) rest ending c) need g.typed.0 here_placed here_has
        (node_right (mem_reduce style acc loops body part comb) around scope run.values.elsewhere n (n + length (beside (mem_reduce style acc loops body part comb) rest ending)) lanes tt need g.typed.0 here_placed here_has (placed_inside p core h drams around n place (mem_reduce style acc loops body part comb) rest ending g.placed)
        (kind_chips p core h drams around scope run n place (mem_reduce style acc loops body part comb) rest ending lanes g) (kind_deep p core h drams around scope run n place (mem_reduce style acc loops body part comb) rest ending lanes g) (kind_wide p core h drams around scope run n place (mem_reduce style acc loops body part comb) rest ending lanes g) g.some)
        (stages_right rest ending c around scope (no_run run.values.elsewhere) (n + length (beside (mem_reduce style acc loops body part comb) rest ending) + length (inside (mem_reduce style acc loops body part comb))) lanes (stage_going p core h drams around scope run n place (mem_reduce style acc loops body part comb) rest ending lanes g (λ v u. or_middle (is_using (only v) (mem_reduce style acc loops body part comb)) (are_using (only v) rest) (ending_uses (names_after (only v) rest) ending) u) refl g.typed.1) ends).0 in
        (x.0, λ e. x.1)
    stages_right (more_stmt (stmt place (fsm start tested test state body last next_state)) rest) ending c around scope run n lanes g ends =
        let need = stage_need p core h drams around scope run n place (fsm start tested test state body last next_state) rest ending lanes g (λ v u. or_left (is_using (only v) (fsm start tested test state body last next_state) || are_using (only v) rest) (ending_uses (names_after (only v) rest) ending) (or_left (is_using (only v) (fsm start tested test state body last next_state)) (are_using (only v) rest) u)) in
        let here_placed = placed_here p core h drams around n place (fsm start tested test state body last next_state) rest ending g.placed in
        let here_has = has_here p core h drams around n place (fsm start tested test state body last next_state) rest ending g.has in
        let x = stage_result p core h drams around scope run n place (fsm start tested test state body last next_state) rest ending lanes g (node p.mems (length p.counters) run.values.elsewhere n (n + length (beside (fsm start tested test state body last next_state) rest ending)) (fsm start tested test state body last next_state))
        (stages p.mems (length p.counters) (no_run run.values.elsewhere) (n + length (beside (fsm start tested test state body last next_state) rest ending) + length (inside (fsm start tested test state body last next_state))) rest ending c) need g.typed.0 here_placed here_has
        (node_right (fsm start tested test state body last next_state) around scope run.values.elsewhere n (n + length (beside (fsm start tested test state body last next_state) rest ending)) lanes tt need g.typed.0 here_placed here_has (placed_inside p core h drams around n place (fsm start tested test state body last next_state) rest ending g.placed)
        (kind_chips p core h drams around scope run n place (fsm start tested test state body last next_state) rest ending lanes g) (kind_deep p core h drams around scope run n place (fsm start tested test state body last next_state) rest ending lanes g) (kind_wide p core h drams around scope run n place (fsm start tested test state body last next_state) rest ending lanes g) g.some)
        (stages_right rest ending c around scope (no_run run.values.elsewhere) (n + length (beside (fsm start tested test state body last next_state) rest ending) + length (inside (fsm start tested test state body last next_state))) lanes (stage_going p core h drams around scope run n place (fsm start tested test state body last next_state) rest ending lanes g (λ v u. or_middle (is_using (only v) (fsm start tested test state body last next_state)) (are_using (only v) rest) (ending_uses (names_after (only v) rest) ending) u) refl g.typed.1) ends).0 in
        (x.0, λ e. x.1)
    stages_right (more_stmt (stmt place (branch test first second)) rest) ending c around scope run n lanes g ends =
        let need = stage_need p core h drams around scope run n place (branch test first second) rest ending lanes g (λ v u. or_left (is_using (only v) (branch test first second) || are_using (only v) rest) (ending_uses (names_after (only v) rest) ending) (or_left (is_using (only v) (branch test first second)) (are_using (only v) rest) u)) in
        let here_placed = placed_here p core h drams around n place (branch test first second) rest ending g.placed in
        let here_has = has_here p core h drams around n place (branch test first second) rest ending g.has in
        let x = stage_result p core h drams around scope run n place (branch test first second) rest ending lanes g (node p.mems (length p.counters) run.values.elsewhere n (n + length (beside (branch test first second) rest ending)) (branch test first second))
        (stages p.mems (length p.counters) (no_run run.values.elsewhere) (n + length (beside (branch test first second) rest ending) + length (inside (branch test first second))) rest ending c) need g.typed.0 here_placed here_has
        (node_right (branch test first second) around scope run.values.elsewhere n (n + length (beside (branch test first second) rest ending)) lanes tt need g.typed.0 here_placed here_has (placed_inside p core h drams around n place (branch test first second) rest ending g.placed)
        (kind_chips p core h drams around scope run n place (branch test first second) rest ending lanes g) (kind_deep p core h drams around scope run n place (branch test first second) rest ending lanes g) (kind_wide p core h drams around scope run n place (branch test first second) rest ending lanes g) g.some)
        (stages_right rest ending c around scope (no_run run.values.elsewhere) (n + length (beside (branch test first second) rest ending) + length (inside (branch test first second))) lanes (stage_going p core h drams around scope run n place (branch test first second) rest ending lanes g (λ v u. or_middle (is_using (only v) (branch test first second)) (are_using (only v) rest) (ending_uses (names_after (only v) rest) ending) u) refl g.typed.1) ends).0 in
        (x.0, λ e. x.1)

    node_right : (k : PlainStmtKind) (around : Around) (scope : Scope) (sources : Sources) (b n lanes : ℕ) → IsStageKind k → MayNeed core around p scope sources (λ v. is_using (only v) k) → StmtTyped p scope k
        → Placed core b (beside k no_stmt no_more) → Has around (numbers_from b (length (beside k no_stmt no_more))) → Placed core n (inside k) → Chips p core h (mems_in k) → length around.counters + 4 * depth_in k ≤ 260 → kind_lanes k lanes ≤ 16 → 1 ≤ lanes
        → NodesRight core around (node p.mems (length p.counters) sources b n k)
    node_right (load_sram sram dram spans) around scope sources b n lanes t need typed placed has within_placed chips deep wide some =
        load_nodes p core h drams around (slice_lanes spans == 1) (dram_number p.mems dram) (mem_number p.mems sram) (slice_lanes spans) (spans_of p.mems sources b spans) WideLoad
        (load_right p core h drams around scope sources (λ v. is_using (only v) (load_sram sram dram spans)) need dram (expressions.mem p.mems sram).ty spans typed.1 b (early_at core around (is_early_part spans) b (parts_of spans) placed has) (λ v u. u) sram typed.0 typed.2 (slice_few lanes spans wide some))
    node_right (load_line line dram spans) around scope sources b n lanes t need typed placed has within_placed chips deep wide some =
        load_nodes p core h drams around (slice_lanes spans == 1) (dram_number p.mems dram) (mem_number p.mems line) (slice_lanes spans) (spans_of p.mems sources b spans) WideLoad
        (line_right p core h drams around scope sources (λ v. is_using (only v) (load_line line dram spans)) need dram (expressions.mem p.mems line).ty spans typed.1 b (early_at core around (is_early_part spans) b (parts_of spans) placed has) (λ v u. u) line typed.0 typed.2 typed.3)
    node_right (store dram spans sram) around scope sources b n lanes t need typed placed has within_placed chips deep wide some =
        store_nodes p core h drams around (slice_lanes spans == 1) (dram_number p.mems dram) (mem_number p.mems sram) (slice_lanes spans) (spans_of p.mems sources b spans) WideStore
        (store_right p core h drams around scope sources (λ v. is_using (only v) (store dram spans sram)) need dram (expressions.mem p.mems sram).ty spans typed.1 b (early_at core around (is_early_part spans) b (parts_of spans) placed has) (λ v u. u) sram typed.0 typed.2 (slice_few lanes spans wide some))
    node_right (gather sram dram places e) around scope sources b n lanes t need typed placed has within_placed chips deep wide some =
        pick_right p core h drams around scope sources (λ v. is_using (only v) (gather sram dram places e)) need dram sram places b e (expressions.mem p.mems sram).ty typed.1 typed.0 typed.2 (early_at core around is_early b (e ∷ []) placed has) (λ v u. u)
    node_right (scatter dram places e sram) around scope sources b n lanes t need typed placed has within_placed chips deep wide some =
        pick_right p core h drams around scope sources (λ v. is_using (only v) (scatter dram places e sram)) need dram sram places b e (expressions.mem p.mems sram).ty typed.1 typed.0 typed.2 (early_at core around is_early b (e ∷ []) placed has) (λ v u. u)
    node_right (block style body) around scope sources b n lanes t need typed placed has within_placed chips deep wide some =
        let inside_need : (owned : List ℕ) → MayNeed core (within around [] owned) p scope sources (λ v. used (only v) body no_more) = λ owned. within_need p core h around scope sources (λ v. is_using (only v) (block style body)) (λ v. used (only v) body no_more) [] [] owned (omega arith) refl (λ v u. or_none (are_using (only v) body) u) need in
        body_right p core h drams around scope sources n [] body no_more inside_need typed chips (style_of p.mems (length p.counters) style body) nothing (stages p.mems (length p.counters) (no_run sources) n body no_more nothing) (no_loops p core h drams around (omega (arith, deep))) (omega arith)
        (λ v u. u) (λ owned. tt)
        (λ i. let r = stages_right body no_more nothing (inside_of p core h drams around scope sources n [] body no_more inside_need typed chips) scope (no_run sources) n lanes
        (enter p core h drams around scope sources n [] body no_more inside_need typed chips lanes (placed_outer p core h drams n body (registers body no_more) i within_placed) (omega (arith, deep)) wide some) tt in
        (r.0, r.1 (or_left (not (is_inner body)) false (ap not i))))
    node_right (foreach style loops body) around scope sources b n lanes t need typed placed has within_placed chips deep wide some =
        let needed : ℕ → Bool = λ v. is_using (only v) (foreach style loops body) in
        let m : length loops ≤ 4 = typed.1.one_to_four.1 in
        let some_loops : 1 ≤ structure.lanes_of loops = some_lanes p core h around scope sources needed need loops typed.1.bounds in
        let most : lanes * structure.lanes_of loops ≤ lanes_in body (lanes * structure.lanes_of loops) = lanes_least body (lanes * structure.lanes_of loops) in
        let fewer : structure.lanes_of loops ≤ lanes * structure.lanes_of loops = one_mul lanes (structure.lanes_of loops) some in
        let written : List core_tree.PlainCounter = counters_of p.mems sources b loops in
        let inside_need : (owned : List ℕ) → MayNeed core (within around written owned) p (with_counters scope loops) sources (λ v. used (only v) body no_more) =
        λ owned. within_need p core h around scope sources needed (λ v. used (only v) body no_more) loops written owned (counters_lanes p sources scope b loops typed.1.bounds) (counters_numbers p sources b loops) (λ v u. or_right (counters_use (only v) loops) (are_using (only v) body) (or_none (are_using (only v) body) u)) need in
        body_right p core h drams around (with_counters scope loops) sources n written body no_more inside_need typed.2 chips style nothing (stages p.mems (length p.counters) (no_run sources) n body no_more nothing)
        (loops_right around scope sources needed b loops need typed.1 (early_at core around is_early b (bounds_of loops) placed has) (λ v u. or_left (counters_use (only v) loops) (are_using (only v) body) u) (omega (arith, fewer, most, wide)) (omega (arith, m, deep))) (counters_lanes p sources scope b loops typed.1.bounds)
        (λ v u. u) (λ owned. tt)
        (λ i. let r = stages_right body no_more nothing (inside_of p core h drams around (with_counters scope loops) sources n written body no_more inside_need typed.2 chips) (with_counters scope loops) (no_run sources) n (lanes * structure.lanes_of loops)
        (enter p core h drams around (with_counters scope loops) sources n written body no_more inside_need typed.2 chips (lanes * structure.lanes_of loops) (placed_outer p core h drams n body (registers body no_more) i within_placed) (omega (arith, m, counters_length p sources b loops, deep)) wide (mul-le 1 1 lanes (structure.lanes_of loops) some some_loops)) tt in
        (r.0, r.1 (or_left (not (is_inner body)) false (ap not i))))
    node_right (reduce style true acc loops body e comb) around scope sources b n lanes t need typed placed has within_placed chips deep wide some =
        let needed : ℕ → Bool = λ v. is_using (only v) (reduce style true acc loops body e comb) in
        let m : length loops ≤ 4 = typed.1.one_to_four.1 in
        let some_loops : 1 ≤ structure.lanes_of loops = some_lanes p core h around scope sources needed need loops typed.1.bounds in
        let most : lanes * structure.lanes_of loops ≤ lanes_in body (lanes * structure.lanes_of loops) = lanes_least body (lanes * structure.lanes_of loops) in
        let fewer : structure.lanes_of loops ≤ lanes * structure.lanes_of loops = one_mul lanes (structure.lanes_of loops) some in
        let written : List core_tree.PlainCounter = counters_of p.mems sources b loops in
        let ending : Ending = ending_of loops e in
        let c : Combines = combines p.mems true acc (b + length (registers_for is_early (bounds_of loops))) comb e in
        let acc_is : IsRegister core around (mem_number p.mems acc) (type_of e) = reg_there around scope sources needed acc (type_of e) need typed.3 in
        let combined : (owned : List ℕ) → CombinesRightly p core (within around written owned) (after_all (with_counters scope loops) body) c = (λ owned. (typed.5, register_within p core h around written owned (mem_number p.mems acc) (type_of e) acc_is)) in
        let inside_need : (owned : List ℕ) → MayNeed core (within around written owned) p (with_counters scope loops) sources (λ v. used (only v) body (ending_of loops e)) =
        λ owned. within_need p core h around scope sources needed (λ v. used (only v) body (ending_of loops e)) loops written owned (counters_lanes p sources scope b loops typed.1.bounds) (counters_numbers p sources b loops)
        (λ v u. or_left_middle (counters_use (only v) loops) (are_using (only v) body) (uses (names_after (only v) body) e) (sym (ending_used (only v) body loops e) ∙ u)) need in
        let inner_around : Around = inside_of p core h drams around (with_counters scope loops) sources n written body (ending_of loops e) inside_need typed.2 chips in
        let early_regs = early_at core around is_early b (bounds_of loops) (placed_left core b (registers_for is_early (bounds_of loops)) [] placed) (has_both around b (registers_for is_early (bounds_of loops)) [] has).0 in
        body_right p core h drams around (with_counters scope loops) sources n written body (ending_of loops e) inside_need typed.2 chips style c (stages p.mems (length p.counters) (no_run sources) n body (ending_of loops e) c)
        (loops_right around scope sources needed b loops need typed.1 early_regs (λ v u. or_left (counters_use (only v) loops || are_using (only v) body) (uses (names_after (only v) body) e) (or_left (counters_use (only v) loops) (are_using (only v) body) u)) (omega (arith, fewer, most, wide)) (omega (arith, m, deep))) (counters_lanes p sources scope b loops typed.1.bounds)
        (λ v u. ending_used (only v) body loops e ∙ u) combined
        (λ i. let r = stages_right body (ending_of loops e) c inner_around (with_counters scope loops) (no_run sources) n (lanes * structure.lanes_of loops)
        (enter p core h drams around (with_counters scope loops) sources n written body (ending_of loops e) inside_need typed.2 chips (lanes * structure.lanes_of loops) (placed_outer p core h drams n body (registers body (ending_of loops e)) i within_placed) (omega (arith, m, counters_length p sources b loops, deep)) wide (mul-le 1 1 lanes (structure.lanes_of loops) some some_loops))
        (ending_is (λ end. Ends p core h inner_around (after_all (with_counters scope loops) body) end (combines p.mems true acc (b + length (registers_for is_early (bounds_of loops))) comb e)) loops e (fold_ends p core h inner_around (after_all (with_counters scope loops) body) (mem_number p.mems acc) comb e (combined (own_numbers p core h drams body ++ owned_registers n body (ending_of loops e)))) (fold_ends p core h inner_around (after_all (with_counters scope loops) body) (mem_number p.mems acc) comb e (combined (own_numbers p core h drams body ++ owned_registers n body (ending_of loops e))))) in
        (r.0, r.1 (or_left (not (is_inner body)) false (ap not i))))
    node_right (reduce style false acc loops body e comb) around scope sources b n lanes t need typed placed has within_placed chips deep wide some =
        let needed : ℕ → Bool = λ v. is_using (only v) (reduce style false acc loops body e comb) in
        let m : length loops ≤ 4 = typed.1.one_to_four.1 in
        let some_loops : 1 ≤ structure.lanes_of loops = some_lanes p core h around scope sources needed need loops typed.1.bounds in
        let most : lanes * structure.lanes_of loops ≤ lanes_in body (lanes * structure.lanes_of loops) = lanes_least body (lanes * structure.lanes_of loops) in
        let fewer : structure.lanes_of loops ≤ lanes * structure.lanes_of loops = one_mul lanes (structure.lanes_of loops) some in
        let written : List core_tree.PlainCounter = counters_of p.mems sources b loops in
        let ending : Ending = ending_of loops e in
        let c : Combines = combines p.mems false acc (b + length (registers_for is_early (bounds_of loops))) comb e in
        let acc_is : IsRegister core around (mem_number p.mems acc) (type_of e) = reg_there around scope sources needed acc (type_of e) need typed.3 in
        let begun_is : IsRegister core around (b + length (registers_for is_early (bounds_of loops))) Bit = first_register core around (b + length (registers_for is_early (bounds_of loops))) begun_register Bit (placed_right core b (registers_for is_early (bounds_of loops)) (begun_register ∷ []) placed) (has_both around b (registers_for is_early (bounds_of loops)) (begun_register ∷ []) has).1 refl refl in
        let combined : (owned : List ℕ) → CombinesRightly p core (within around written owned) (after_all (with_counters scope loops) body) c = (λ owned. (typed.5, register_within p core h around written owned (mem_number p.mems acc) (type_of e) acc_is, register_within p core h around written owned (b + length (registers_for is_early (bounds_of loops))) Bit begun_is)) in
        let inside_need : (owned : List ℕ) → MayNeed core (within around written owned) p (with_counters scope loops) sources (λ v. used (only v) body (ending_of loops e)) =
        λ owned. within_need p core h around scope sources needed (λ v. used (only v) body (ending_of loops e)) loops written owned (counters_lanes p sources scope b loops typed.1.bounds) (counters_numbers p sources b loops)
        (λ v u. or_left_middle (counters_use (only v) loops) (are_using (only v) body) (uses (names_after (only v) body) e) (sym (ending_used (only v) body loops e) ∙ u)) need in
        let inner_around : Around = inside_of p core h drams around (with_counters scope loops) sources n written body (ending_of loops e) inside_need typed.2 chips in
        let early_regs = early_at core around is_early b (bounds_of loops) (placed_left core b (registers_for is_early (bounds_of loops)) (begun_register ∷ []) placed) (has_both around b (registers_for is_early (bounds_of loops)) (begun_register ∷ []) has).0 in
        body_right p core h drams around (with_counters scope loops) sources n written body (ending_of loops e) inside_need typed.2 chips style c (stages p.mems (length p.counters) (no_run sources) n body (ending_of loops e) c)
        (loops_right around scope sources needed b loops need typed.1 early_regs (λ v u. or_left (counters_use (only v) loops || are_using (only v) body) (uses (names_after (only v) body) e) (or_left (counters_use (only v) loops) (are_using (only v) body) u)) (omega (arith, fewer, most, wide)) (omega (arith, m, deep))) (counters_lanes p sources scope b loops typed.1.bounds)
        (λ v u. ending_used (only v) body loops e ∙ u) combined
        (λ i. let r = stages_right body (ending_of loops e) c inner_around (with_counters scope loops) (no_run sources) n (lanes * structure.lanes_of loops)
        (enter p core h drams around (with_counters scope loops) sources n written body (ending_of loops e) inside_need typed.2 chips (lanes * structure.lanes_of loops) (placed_outer p core h drams n body (registers body (ending_of loops e)) i within_placed) (omega (arith, m, counters_length p sources b loops, deep)) wide (mul-le 1 1 lanes (structure.lanes_of loops) some some_loops))
        (ending_is (λ end. Ends p core h inner_around (after_all (with_counters scope loops) body) end (combines p.mems false acc (b + length (registers_for is_early (bounds_of loops))) comb e)) loops e (reduce_ends p core h inner_around (after_all (with_counters scope loops) body) (mem_number p.mems acc) (b + length (registers_for is_early (bounds_of loops))) comb e (combined (own_numbers p core h drams body ++ owned_registers n body (ending_of loops e)))) (reduce_ends p core h inner_around (after_all (with_counters scope loops) body) (mem_number p.mems acc) (b + length (registers_for is_early (bounds_of loops))) comb e (combined (own_numbers p core h drams body ++ owned_registers n body (ending_of loops e))))) in
        (r.0, r.1 (or_left (not (is_inner body)) false (ap not i))))
    node_right (mem_reduce style acc loops body part comb) around scope sources b n lanes t need typed placed has within_placed chips deep wide some =
        let needed : ℕ → Bool = λ v. is_using (only v) (mem_reduce style acc loops body part comb) in
        let m : length loops ≤ 4 = typed.1.one_to_four.1 in
        let some_loops : 1 ≤ structure.lanes_of loops = some_lanes p core h around scope sources needed need loops typed.1.bounds in
        let most : lanes * structure.lanes_of loops ≤ lanes_in body (lanes * structure.lanes_of loops) = lanes_least body (lanes * structure.lanes_of loops) in
        let fewer : structure.lanes_of loops ≤ lanes * structure.lanes_of loops = one_mul lanes (structure.lanes_of loops) some in
        let written : List core_tree.PlainCounter = counters_of p.mems sources b loops in
        let early : List core_tree.PlainMem = registers_for is_early (bounds_of loops) in
        let begun : ℕ = b + length (registers_for is_early (bounds_of loops)) in
        let c : Combines = reduces_elements part (mem_number p.mems acc) (b + length (registers_for is_early (bounds_of loops))) comb in
        let begun_is : IsRegister core around (b + length (registers_for is_early (bounds_of loops))) Bit = first_register core around begun begun_register Bit (placed_right core b (registers_for is_early (bounds_of loops)) (begun_register ∷ []) placed) (has_both around b (registers_for is_early (bounds_of loops)) (begun_register ∷ []) has).1 refl refl in
        let part_ty : (expressions.mem p.mems part).ty ≡ (expressions.mem p.mems acc).ty = typed.8 in
        let acc_is : IsElements core around (mem_number p.mems acc) (expressions.mem p.mems part).ty (length (expressions.mem p.mems part).dims) = subst (λ y. IsElements core around (mem_number p.mems acc) y (length (expressions.mem p.mems part).dims)) (sym part_ty) (sram_there around scope sources needed acc (expressions.mem p.mems acc).ty (length (expressions.mem p.mems part).dims) need typed.3 (ap length (sym typed.9))) in
        let inside_need : (owned : List ℕ) → MayNeed core (within around written owned) p (with_counters scope loops) sources (λ v. used (only v) body no_more) =
        λ owned. within_need p core h around scope sources needed (λ v. used (only v) body no_more) loops written owned (counters_lanes p sources scope b loops typed.1.bounds) (counters_numbers p sources b loops) (λ v u. or_right (counters_use (only v) loops) (are_using (only v) body) (or_none (are_using (only v) body) u)) need in
        let owned : List ℕ = own_numbers p core h drams body ++ owned_registers n body no_more in
        let inner_around : Around = inside_of p core h drams around (with_counters scope loops) sources n written body no_more inside_need typed.2 chips in
        let early_regs = early_at core around is_early b (bounds_of loops) (placed_left core b (registers_for is_early (bounds_of loops)) (begun_register ∷ []) placed) (has_both around b (registers_for is_early (bounds_of loops)) (begun_register ∷ []) has).0 in
        let part_is = own_within p core h around written (owned_registers n body no_more) body chips part typed.6 in
        let near : length inner_around.counters ≡ length written + length around.counters = around_length around written owned in
        let declared = h.declared part _ part_is.exists in
        let rank : length (expressions.mem p.mems part).dims ≤ 3 = (subst (λ k. HasRank k (length (expressions.mem p.mems part).dims)) typed.7 declared.rank).1 in
        let r = stages_right body no_more c inner_around (with_counters scope loops) (no_run sources) n (lanes * structure.lanes_of loops)
        (enter p core h drams around (with_counters scope loops) sources n written body no_more inside_need typed.2 chips (lanes * structure.lanes_of loops) within_placed (omega (arith, m, counters_length p sources b loops, deep)) wide (mul-le 1 1 lanes (structure.lanes_of loops) some some_loops))
        (loop_right p core h inner_around (length p.counters) part (mem_number p.mems acc) (b + length (registers_for is_early (bounds_of loops))) comb part_is.exists typed.7 part_is.usable (elements_within around written owned (mem_number p.mems acc) (expressions.mem p.mems part).ty (length (expressions.mem p.mems part).dims) acc_is)
        (register_within p core h around written owned (b + length (registers_for is_early (bounds_of loops))) Bit begun_is) declared.dims rank (omega (arith, near, m, counters_length p sources b loops, deep))) in
        outer_right p core h drams around (with_counters scope loops) sources n written body no_more inside_need typed.2 chips style c (stages p.mems (length p.counters) (no_run sources) n body no_more c)
        (loops_right around scope sources needed b loops need typed.1 early_regs (λ v u. or_left (counters_use (only v) loops) (are_using (only v) body) u) (omega (arith, fewer, most, wide)) (omega (arith, m, deep))) (counters_lanes p sources scope b loops typed.1.bounds)
        r.0 (r.1 (or_right (not (is_inner body)) true refl))
    node_right (fsm start tested test state body last next_state) around scope sources b n lanes t need typed placed has within_placed chips deep wide some =
        let K : PlainStmtKind = fsm start tested test state body last next_state in
        let needed : ℕ → Bool = λ v. is_using (only v) (fsm start tested test state body last next_state) in
        let ty : Ty = type_of start in
        let around2 : Around = within around [] (n ∷ []) in
        let kept : Sources = values.with_state sources tested state last n in
        let state_placed : Placed core n (state_register (type_of start) ∷ []) = placed_left core n (state_register (type_of start) ∷ []) (registers_in body no_more) within_placed in
        let state_is : IsRegister core (within around [] (n ∷ [])) n (type_of start) = first_register core (within around [] (n ∷ [])) n (state_register (type_of start)) (type_of start) state_placed (λ k e. among_left k (n ∷ []) around.owned e) refl refl in
        let body_placed : Placed core (suc n) (registers_in body no_more) = subst (λ i. Placed core i (registers_in body no_more)) {x = n + length (state_register (type_of start) ∷ [])} {y = suc n} (omega arith) (placed_right core n (state_register (type_of start) ∷ []) (registers_in body no_more) within_placed) in
        let test_need : MayNeed core (within around [] (n ∷ [])) p (with_val scope tested (type_of start)) kept (λ v. uses (only v) test) =
        state_need p core h around scope sources n tested state last (type_of start) typed.1 typed.3 typed.5 tested needed (λ v. uses (only v) test) (tested_kept p core h around scope sources n tested state last (type_of start) typed.1 typed.3 typed.5) state_is
        (λ v u. or_left ((uses (only v) start || uses (only v) test) || are_using (only v) body) (uses (only v) next_state) (or_left (uses (only v) start || uses (only v) test) (are_using (only v) body) (or_right (uses (only v) start) (uses (only v) test) u))) need in
        let body_need : MayNeed core (within around [] (n ∷ [])) p (with_val scope state (type_of start)) kept (λ v. used (only v) body no_more) =
        state_need p core h around scope sources n tested state last (type_of start) typed.1 typed.3 typed.5 state needed (λ v. used (only v) body no_more) (state_kept p core h around scope sources n tested state last (type_of start) typed.1 typed.3 typed.5) state_is
        (λ v u. or_left ((uses (only v) start || uses (only v) test) || are_using (only v) body) (uses (only v) next_state) (or_right (uses (only v) start || uses (only v) test) (are_using (only v) body) (or_none (are_using (only v) body) u))) need in
        let next_need : MayNeed core (within around [] (n ∷ [])) p (with_val scope last (type_of start)) kept (λ v. uses (only v) next_state) =
        state_need p core h around scope sources n tested state last (type_of start) typed.1 typed.3 typed.5 last needed (λ v. uses (only v) next_state) (last_kept p core h around scope sources n tested state last (type_of start) typed.1 typed.3 typed.5) state_is
        (λ v u. or_right ((uses (only v) start || uses (only v) test) || are_using (only v) body) (uses (only v) next_state) u) need in
        let start_is : is_word_list core around (word_list p.mems sources start) (type_of start) ≡ true = word_is p core h around scope sources needed need start typed.0.0.0
        (λ v u. or_left ((uses (only v) start || uses (only v) test) || are_using (only v) body) (uses (only v) next_state) (or_left (uses (only v) start || uses (only v) test) (are_using (only v) body) (or_left (uses (only v) start) (uses (only v) test) u))) in
        let test_is : is_word_list core (within around [] (n ∷ [])) (word_list p.mems kept test) Bit ≡ true = subst (λ y. is_word_list core (within around [] (n ∷ [])) (word_list p.mems kept test) y ≡ true) typed.2.0.1 (word_is p core h (within around [] (n ∷ [])) (with_val scope tested (type_of start)) kept (λ v. uses (only v) test) test_need test typed.2.0.0 (λ v u. u)) in
        let next_is : is_word_list core (within around [] (n ∷ [])) (word_list p.mems kept next_state) (type_of start) ≡ true = subst (λ y. is_word_list core (within around [] (n ∷ [])) (word_list p.mems kept next_state) y ≡ true) typed.6.0.1 (word_is p core h (within around [] (n ∷ [])) (with_val scope last (type_of start)) kept (λ v. uses (only v) next_state) next_need next_state typed.6.0.0 (λ v u. u)) in
        let inside_need : (owned : List ℕ) → MayNeed core (within (within around [] (n ∷ [])) [] owned) p (with_val scope state (type_of start)) kept (λ v. used (only v) body no_more) =
        λ owned. within_need p core h (within around [] (n ∷ [])) (with_val scope state (type_of start)) kept (λ v. used (only v) body no_more) (λ v. used (only v) body no_more) [] [] owned (omega arith) refl (λ v u. u) body_need in
        let near : length around2.counters ≡ 0 + length around.counters = around_length around [] (n ∷ []) in (
          and_from _ _ (and_from _ _ (ap is_reg state_is.is_kind) (subst (λ y. is_word_list core around (word_list p.mems sources start) y ≡ true) (sym state_is.is_type) start_is))
              (and_from _ _ test_is (subst (λ y. is_word_list core (within around [] (n ∷ [])) (word_list p.mems kept next_state) y ≡ true) (sym state_is.is_type) next_is)),
          body_right p core h drams (within around [] (n ∷ [])) (with_val scope state (type_of start)) kept (suc n) [] body no_more inside_need typed.4 chips Pipe nothing (stages p.mems (length p.counters) (no_run kept) (suc n) body no_more nothing) (no_loops p core h drams (within around [] (n ∷ [])) (omega (arith, near, deep))) (omega arith)
              (λ v u. u) (λ owned. tt)
              (λ i. let r = stages_right body no_more nothing (inside_of p core h drams (within around [] (n ∷ [])) (with_val scope state (type_of start)) kept (suc n) [] body no_more inside_need typed.4 chips) (with_val scope state (type_of start)) (no_run kept) (suc n) lanes
              (enter p core h drams (within around [] (n ∷ [])) (with_val scope state (type_of start)) kept (suc n) [] body no_more inside_need typed.4 chips lanes (placed_outer p core h drams (suc n) body (registers body no_more) i body_placed) (omega (arith, near, deep)) wide some) tt in
              (r.0, r.1 (or_left (not (is_inner body)) false (ap not i)))),
        )
    node_right (branch test first second) around scope sources b n lanes t need typed placed has within_placed chips deep wide some =
        let needed : ℕ → Bool = λ v. is_using (only v) (branch test first second) in
        let m : ℕ = n + length (registers_in first no_more) in
        let test_is : is_word_list core around (word_list p.mems sources test) Bit ≡ true = subst (λ y. is_word_list core around (word_list p.mems sources test) y ≡ true) typed.0.0.1 (word_is p core h around scope sources needed need test typed.0.0.0
        (λ v u. or_left (uses (only v) test || are_using (only v) first) (are_using (only v) second) (or_left (uses (only v) test) (are_using (only v) first) u))) in
        let first_need : (owned : List ℕ) → MayNeed core (within around [] owned) p scope sources (λ v. used (only v) first no_more) = λ owned. within_need p core h around scope sources needed (λ v. used (only v) first no_more) [] [] owned (omega arith) refl
        (λ v u. or_left (uses (only v) test || are_using (only v) first) (are_using (only v) second) (or_right (uses (only v) test) (are_using (only v) first) (or_none (are_using (only v) first) u))) need in
        let second_need : (owned : List ℕ) → MayNeed core (within around [] owned) p scope sources (λ v. used (only v) second no_more) = λ owned. within_need p core h around scope sources needed (λ v. used (only v) second no_more) [] [] owned (omega arith) refl
        (λ v u. or_right (uses (only v) test || are_using (only v) first) (are_using (only v) second) (or_none (are_using (only v) second) u)) need in
        let first_chips : Chips p core h (mems_declared first) = λ x c. chips x (in_front (mems_declared first) (mems_declared second) x c) in
        let second_chips : Chips p core h (mems_declared second) = λ x c. chips x (in_back (mems_declared first) (mems_declared second) x c) in
        let first_placed : Placed core n (registers_in first no_more) = placed_left core n (registers_in first no_more) (registers_in second no_more) within_placed in
        let second_placed : Placed core (n + length (registers_in first no_more)) (registers_in second no_more) = placed_right core n (registers_in first no_more) (registers_in second no_more) within_placed in (
          test_is,
          body_right p core h drams around scope sources n [] first no_more first_need typed.1 first_chips Pipe nothing (stages p.mems (length p.counters) (no_run sources) n first no_more nothing) (no_loops p core h drams around (omega (arith, deep))) (omega arith)
              (λ v u. u) (λ owned. tt)
              (λ i. let r = stages_right first no_more nothing (inside_of p core h drams around scope sources n [] first no_more first_need typed.1 first_chips) scope (no_run sources) n lanes
              (enter p core h drams around scope sources n [] first no_more first_need typed.1 first_chips lanes (placed_outer p core h drams n first (registers first no_more) i first_placed) (omega (arith, deep)) (omega (arith, wide)) some) tt in
              (r.0, r.1 (or_left (not (is_inner first)) false (ap not i)))),
          body_right p core h drams around scope sources m [] second no_more second_need typed.2 second_chips Pipe nothing (stages p.mems (length p.counters) (no_run sources) m second no_more nothing) (no_loops p core h drams around (omega (arith, deep))) (omega arith)
              (λ v u. u) (λ owned. tt)
              (λ i. let r = stages_right second no_more nothing (inside_of p core h drams around scope sources m [] second no_more second_need typed.2 second_chips) scope (no_run sources) m lanes
              (enter p core h drams around scope sources m [] second no_more second_need typed.2 second_chips lanes (placed_outer p core h drams m second (registers second no_more) i second_placed) (omega (arith, deep)) (omega (arith, wide)) some) tt in
              (r.0, r.1 (or_left (not (is_inner second)) false (ap not i)))),
        )
    node_right _ around scope sources b n lanes t need typed placed has within_placed chips deep wide some = absurd t
