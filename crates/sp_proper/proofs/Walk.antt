-- Each stream block of the core of a program is proper: of a program's blocks those alone have the style `Stream` there that are
-- proper, and no loop has it.
use Rattle.std.proofs.Common.{◌≡◌, ℕ, suc, ◌+◌, ◌<◌, ◌≤◌, ◌==◌, Bool, true, false, not, ◌&&◌, List, [], ◌∷◌, ◌++◌, length, Option, refl, sym, ◌∙◌, ap, subst, arith, true≢false, if◌then◌else◌}
use Rattle.std.specs.List.{list_all}
use Rattle.std.specs.Prelude.{flat_map}
use Rattle.sp_words.specs.declared.kind.Style.{Style}
use Rattle.sp_words.specs.declared.kind.Style.TheVariants.{Pipe, Sequential, Parallel, Stream}
use Rattle.sp_tree.specs.PlainExpression.{type_of}
use Rattle.sp_tree.specs.PlainProgram.{PlainProgram}
use Rattle.sp_tree.specs.PlainStatement as tree
use Rattle.sp_tree.specs.PlainStatement.{PlainStmtKind, PlainStmts, stmt, declare, name, set_reg, set_out, set_sram, enq, load_sram, load_line, store, gather, scatter, block, foreach, reduce, mem_reduce, fsm, branch, no_stmt, more_stmt}
use Rattle.sp_tree.specs.Streams.{are_stages, stream_stages, has_one_at_each_end, is_shared_unchanged, joined_by, is_forest, own_fifos, other_mems, is_proper}
use Rattle.sp_tree.specs.Structure.{own_mems, mems_declared, mems_in, is_inner, slice_lanes}
use Rattle.sp_tree.specs.Typing.{Scope, BodyTyped, StmtTyped, IsLoopStyle, after, with_counters, with_val}
use Rattle.sp_core.specs.Declarations.{is_stream}
use Rattle.sp_core.specs.PlainCore as core_tree
use Rattle.sp_core.specs.PlainCore.{PlainOp, PlainCounter, PlainNode, PlainStages, no_stage, more_stage, PlainCore}
use Rattle.sp_stream.specs.Proper.{nodes_of}
use Rattle.sp_stream.proofs.Ways.{and_elim}
use Rattle.sp_sugar.specs.Early.{bounds_of, is_early, registers_for, counters_of, stage_of, early_stages}
use Rattle.sp_sugar.specs.Numbers.{mem_number, written_mems}
use Rattle.sp_sugar.specs.Registers.{ending_of, beside, inside, registers_in}
use Rattle.sp_sugar.specs.Runs.{Run, no_run, with_stmt}
use Rattle.sp_sugar.specs.Stages.{run_stage, first_of, Combines, nothing, folds, reduces, reduces_elements, combines, inner_node, last_stages, style_of, outer_node, body_node, stages, node}
use Rattle.sp_sugar.specs.Uses.{Ending, no_more, in_last_run, in_combination}
use Rattle.sp_sugar.specs.Values.{Source, at_place, in_register, constant, count, Sources, with_state}
use Rattle.sp_sugar.proofs.Entering.{same_mems}
use Rattle.sp_sugar.proofs.NumberLemmas.{either}
use Rattle.sp_sugar.proofs.OwnerCounts.{count_of, count_append}
use Rattle.sp_lane_cores.proofs.LanedEarlier.{run_good, early_good}
use Rattle.sp_lane_cores.proofs.LanedNaming.{SourceHas, SourcesHave, ValuesHave, RegisterHas, changed_have, stmt_have}
use Rattle.sp_proper.proofs.Block.{block_right}
use Rattle.sp_proper.proofs.Deeds.{Low}
use Rattle.sp_proper.proofs.Plain.{HasKinds}
use Rattle.sp_proper.proofs.Sites.{StreamsIn, StreamsInStages}
use Rattle.sp_proper.proofs.Stages.{IsFresh, fresh_front, fresh_back, fresh_declared, Staged, staged}

loop_style : (style : Style) → IsLoopStyle style → is_stream style ≡ false
loop_style Pipe h = refl
loop_style Sequential h = refl
loop_style Parallel h = refl
loop_style Stream h = absurd h

-- the first two rules of a proper block
proper_parts : {P : Type 0} (p : PlainProgram) (body : PlainStmts) → is_proper p.mems body ≡ true → (are_stages body ≡ true → list_all (λ s. not s.bounds.arrays) (stream_stages body) ≡ true → P) → P
proper_parts p body h f =
    let ok : Bool = are_stages body && list_all (λ s. not s.bounds.arrays) (stream_stages body) in
    let ends : Bool = list_all (has_one_at_each_end (stream_stages body)) (own_fifos p.mems body) in
    let shared : Bool = list_all (is_shared_unchanged (stream_stages body)) (other_mems p.mems body) in
    let forest : Bool = is_forest (flat_map (joined_by (stream_stages body)) (own_fifos p.mems body)) in
    and_elim (ok && ends && shared) forest h (λ a b. and_elim (ok && ends) shared a (λ c d. and_elim ok ends c (λ e g. and_elim (are_stages body) (list_all (λ s. not s.bounds.arrays) (stream_stages body)) e f)))

module _ (p : PlainProgram) (counters : ℕ) (core : PlainCore) (kinds : HasKinds p core) where
  low_source : (n k : ℕ) → n ≤ k → (x : Source) → SourceHas (Low p n) x → SourceHas (Low p k) x
  low_source n k le (at_place i) h = tt
  low_source n k le (in_register r) (a, b) = (a, omega (arith, b, le))
  low_source n k le (constant w) h = tt
  low_source n k le (count c) h = tt

  low_more : (n k : ℕ) → n ≤ k → (sources : Sources) → SourcesHave (Low p n) sources → SourcesHave (Low p k) sources
  low_more n k le sources h v = low_source n k le (sources v) (h v)

  low_values : (n k : ℕ) → n ≤ k → (run : Run) → ValuesHave (Low p n) run.values → ValuesHave (Low p k) run.values
  low_values n k le run h = (low_more n k le run.values.here h.0, low_more n k le run.values.elsewhere h.1)

  first_low : (n : ℕ) (l : List core_tree.PlainMem) → length (written_mems p.mems) ≤ n → RegisterHas (Low p (n + length l)) (first_of n l)
  first_low n [] le = tt
  first_low n (m ∷ ms) le = (le, omega arith)

  abbrev Good : PlainStages → Type 0
  Good xs = StreamsInStages core xs

  good : (ops : List PlainOp) (rest : PlainStages) → Good rest → Good (stage_of ops rest)
  good ops rest h = (tt, h)

  run_then : (ops : List PlainOp) (rest : PlainStages) → Good rest → Good (run_stage ops rest)
  run_then ops rest h = run_good Good good ops rest h

  -- a stage and those after it
  later_good : (run : Run) (n : ℕ) (k : PlainStmtKind) (x : PlainNode) (others : PlainStages) → StreamsIn core x → Good others
      → Good (run_stage run.ops (early_stages p.mems run.values.elsewhere n k (more_stage 0 0 false x others)))
  later_good run n k x others h hs =
      run_then run.ops (early_stages p.mems run.values.elsewhere n k (more_stage 0 0 false x others)) (early_good Good good p.mems run.values.elsewhere n k (more_stage 0 0 false x others) (h, hs))

  comb_good : (ops : List PlainOp) (owned : List ℕ) (of : List PlainOp) (at : Option ℕ) (loops : List PlainCounter) → Good (run_stage ops (more_stage 0 0 true (core_tree.inner loops owned of at) no_stage))
  comb_good ops owned of at loops = run_then ops (more_stage 0 0 true (core_tree.inner loops owned of at) no_stage) (tt, tt)

  last_good : (run : Run) (n : ℕ) (ending : Ending) (c : Combines) → Good (last_stages p.mems counters run n ending c)
  last_good run n no_more nothing = run_then run.ops no_stage tt
  last_good run n no_more (folds acc comb e) = run_then run.ops no_stage tt
  last_good run n no_more (reduces acc begun comb e) = run_then run.ops no_stage tt
  last_good run n no_more (reduces_elements part acc begun comb) = comb_good run.ops _ _ _ _
  last_good run n (in_combination x) nothing = comb_good run.ops _ _ _ _
  last_good run n (in_combination x) (folds acc comb e) = comb_good run.ops _ _ _ _
  last_good run n (in_combination x) (reduces acc begun comb e) = comb_good run.ops _ _ _ _
  last_good run n (in_combination x) (reduces_elements part acc begun comb) = comb_good run.ops _ _ _ _
  last_good run n (in_last_run x) nothing = comb_good _ _ _ _ _
  last_good run n (in_last_run x) (folds acc comb e) = comb_good _ _ _ _ _
  last_good run n (in_last_run x) (reduces acc begun comb e) = comb_good _ _ _ _ _
  last_good run n (in_last_run x) (reduces_elements part acc begun comb) = comb_good run.ops _ _ _ _

  inner_good : (sources : Sources) (loops : List PlainCounter) (body : PlainStmts) (c : Combines) → StreamsIn core (inner_node p.mems counters sources loops body c)
  inner_good sources loops body nothing = tt
  inner_good sources loops body (folds acc comb e) = tt
  inner_good sources loops body (reduces acc begun comb e) = tt
  inner_good sources loops body (reduces_elements part acc begun comb) = tt

  either_good : (b : Bool) (x y : PlainNode) → StreamsIn core x → StreamsIn core y → StreamsIn core (if b then x else y)
  either_good true x y h k = h
  either_good false x y h k = k

  -- a body that is no stream block
  pub body_good : (sources : Sources) (n : ℕ) (loops : List PlainCounter) (style : Style) (body : PlainStmts) (ending : Ending) (c : Combines) (all : PlainStages) → is_stream style ≡ false → Good all
      → StreamsIn core (body_node p.mems counters sources n loops style body ending c all)
  body_good sources n loops style body ending c all quiet h =
      either_good (is_inner body) (inner_node p.mems counters sources loops body c) (outer_node p.mems counters n loops style body ending all)
      (inner_good sources loops body c) ((λ e. absurd (true≢false (sym e ∙ quiet))), h)

  fresh_loops : (scope : Scope) (loops : List tree.PlainCounter) (xs : List ℕ) → IsFresh p scope.mems xs → IsFresh p (with_counters scope loops).mems xs
  fresh_loops scope loops xs h = subst (λ ms. IsFresh p ms xs) (sym (same_mems scope loops)) h

  -- a proper block
  proper_good : (scope : Scope) (sources : Sources) (n : ℕ) (body : PlainStmts) → length (written_mems p.mems) ≤ n → SourcesHave (Low p n) sources → IsFresh p scope.mems (mems_declared body) → BodyTyped p scope body → is_proper p.mems body ≡ true
      → Good (stages p.mems counters (no_run sources) n body no_more nothing)
      → StreamsIn core (body_node p.mems counters sources n [] Stream body no_more nothing (stages p.mems counters (no_run sources) n body no_more nothing))
  proper_good scope sources n body le have fresh typed proper h =
      let nodes : List PlainNode = nodes_of (stages p.mems counters (no_run sources) n body no_more nothing) in
      let sees : (m : ℕ) → 1 ≤ count_of m scope.mems → (m < length p.mems) × (1 ≤ count_of m (scope.mems ++ own_mems body)) = λ m c. (fresh.range m c, omega (arith, c, count_append m scope.mems (own_mems body))) in
      let out : (m : ℕ) → 1 ≤ count_of m (own_mems body) → 1 ≤ count_of m (scope.mems ++ own_mems body) = λ m c. omega (arith, c, count_append m scope.mems (own_mems body)) in
      proper_parts p body proper (λ ok plain.
      let r : Staged p core (scope.mems ++ own_mems body) n n body nodes = staged p core (scope.mems ++ own_mems body) n kinds sources have counters scope n body sees fresh out typed ok plain in
      either_good (is_inner body) (inner_node p.mems counters sources [] body nothing) (outer_node p.mems counters n [] Stream body no_more (stages p.mems counters (no_run sources) n body no_more nothing))
      (inner_good sources [] body nothing) ((λ e. block_right p core kinds scope.mems n body nodes le fresh r proper), h))

  -- a block by its style
  block_good : (scope : Scope) (style : Style) (sources : Sources) (n : ℕ) (body : PlainStmts) → length (written_mems p.mems) ≤ n → SourcesHave (Low p n) sources → IsFresh p scope.mems (mems_declared body) → BodyTyped p scope body
      → Good (stages p.mems counters (no_run sources) n body no_more nothing)
      → StreamsIn core (body_node p.mems counters sources n [] (style_of p.mems counters style body) body no_more nothing (stages p.mems counters (no_run sources) n body no_more nothing))
  block_good scope Pipe sources n body le have fresh typed h = body_good sources n [] Pipe body no_more nothing _ refl h
  block_good scope Sequential sources n body le have fresh typed h = body_good sources n [] Sequential body no_more nothing _ refl h
  block_good scope Parallel sources n body le have fresh typed h = body_good sources n [] Parallel body no_more nothing _ refl h
  block_good scope Stream sources n body le have fresh typed h = either (is_proper p.mems body)
      (λ e. subst (λ s. StreamsIn core (body_node p.mems counters sources n [] s body no_more nothing (stages p.mems counters (no_run sources) n body no_more nothing))) (sym (ap (λ b. if b then Stream else Sequential) e)) (proper_good scope sources n body le have fresh typed e h))
      (λ e. subst (λ s. StreamsIn core (body_node p.mems counters sources n [] s body no_more nothing (stages p.mems counters (no_run sources) n body no_more nothing))) (sym (ap (λ b. if b then Stream else Sequential) e)) (body_good sources n [] Sequential body no_more nothing _ refl h))

  mutual
    unfolding stages node

    pub stages_good : (scope : Scope) (run : Run) (n : ℕ) (body : PlainStmts) (ending : Ending) (c : Combines) → length (written_mems p.mems) ≤ n → ValuesHave (Low p n) run.values → IsFresh p scope.mems (mems_declared body) → BodyTyped p scope body
        → Good (stages p.mems counters run n body ending c)
    stages_good scope run n no_stmt ending c le low fresh typed = last_good run n ending c
    stages_good scope run n (more_stmt (stmt place (declare m)) rest) ending c le low fresh typed =
        stages_good (after scope (declare m)) (with_stmt p.mems false (first_of n (beside (declare m) rest ending)) run (declare m)) (n + length (beside (declare m) rest ending)) rest ending c (omega (arith, le))
        (stmt_have (Low p (n + length (beside (declare m) rest ending))) p.mems false (first_of n (beside (declare m) rest ending)) run (declare m) (low_values n (n + length (beside (declare m) rest ending)) (omega arith) run low) (first_low n (beside (declare m) rest ending) le))
        (fresh_declared p scope.mems m (mems_declared rest) fresh) typed.1
    stages_good scope run n (more_stmt (stmt place (name v x)) rest) ending c le low fresh typed =
        stages_good (after scope (name v x)) (with_stmt p.mems false (first_of n (beside (name v x) rest ending)) run (name v x)) (n + length (beside (name v x) rest ending)) rest ending c (omega (arith, le))
        (stmt_have (Low p (n + length (beside (name v x) rest ending))) p.mems false (first_of n (beside (name v x) rest ending)) run (name v x) (low_values n (n + length (beside (name v x) rest ending)) (omega arith) run low) (first_low n (beside (name v x) rest ending) le))
        (fresh) typed.1
    stages_good scope run n (more_stmt (stmt place (set_reg m x)) rest) ending c le low fresh typed =
        stages_good (after scope (set_reg m x)) (with_stmt p.mems false (first_of n (beside (set_reg m x) rest ending)) run (set_reg m x)) (n + length (beside (set_reg m x) rest ending)) rest ending c (omega (arith, le))
        (stmt_have (Low p (n + length (beside (set_reg m x) rest ending))) p.mems false (first_of n (beside (set_reg m x) rest ending)) run (set_reg m x) (low_values n (n + length (beside (set_reg m x) rest ending)) (omega arith) run low) (first_low n (beside (set_reg m x) rest ending) le))
        (fresh) typed.1
    stages_good scope run n (more_stmt (stmt place (set_out m x)) rest) ending c le low fresh typed =
        stages_good (after scope (set_out m x)) (with_stmt p.mems false (first_of n (beside (set_out m x) rest ending)) run (set_out m x)) (n + length (beside (set_out m x) rest ending)) rest ending c (omega (arith, le))
        (stmt_have (Low p (n + length (beside (set_out m x) rest ending))) p.mems false (first_of n (beside (set_out m x) rest ending)) run (set_out m x) (low_values n (n + length (beside (set_out m x) rest ending)) (omega arith) run low) (first_low n (beside (set_out m x) rest ending) le))
        (fresh) typed.1
    stages_good scope run n (more_stmt (stmt place (set_sram m xs x)) rest) ending c le low fresh typed =
        stages_good (after scope (set_sram m xs x)) (with_stmt p.mems false (first_of n (beside (set_sram m xs x) rest ending)) run (set_sram m xs x)) (n + length (beside (set_sram m xs x) rest ending)) rest ending c (omega (arith, le))
        (stmt_have (Low p (n + length (beside (set_sram m xs x) rest ending))) p.mems false (first_of n (beside (set_sram m xs x) rest ending)) run (set_sram m xs x) (low_values n (n + length (beside (set_sram m xs x) rest ending)) (omega arith) run low) (first_low n (beside (set_sram m xs x) rest ending) le))
        (fresh) typed.1
    stages_good scope run n (more_stmt (stmt place (enq m x)) rest) ending c le low fresh typed =
        stages_good (after scope (enq m x)) (with_stmt p.mems false (first_of n (beside (enq m x) rest ending)) run (enq m x)) (n + length (beside (enq m x) rest ending)) rest ending c (omega (arith, le))
        (stmt_have (Low p (n + length (beside (enq m x) rest ending))) p.mems false (first_of n (beside (enq m x) rest ending)) run (enq m x) (low_values n (n + length (beside (enq m x) rest ending)) (omega arith) run low) (first_low n (beside (enq m x) rest ending) le))
        (fresh) typed.1
    stages_good scope run n (more_stmt (stmt place (load_sram sram dram spans)) rest) ending c le low fresh typed =
        let later : SourcesHave (Low p (n + length (beside (load_sram sram dram spans) rest ending) + length (inside (load_sram sram dram spans)))) run.values.elsewhere = low_more n (n + length (beside (load_sram sram dram spans) rest ending) + length (inside (load_sram sram dram spans))) (omega arith) run.values.elsewhere low.1 in
        later_good run n (load_sram sram dram spans) (node p.mems counters run.values.elsewhere n (n + length (beside (load_sram sram dram spans) rest ending)) (load_sram sram dram spans)) (stages p.mems counters (no_run run.values.elsewhere) (n + length (beside (load_sram sram dram spans) rest ending) + length (inside (load_sram sram dram spans))) rest ending c)
        (node_good scope (load_sram sram dram spans) run.values.elsewhere n (n + length (beside (load_sram sram dram spans) rest ending)) le (omega arith) low.1 (fresh_front p scope.mems (mems_in (load_sram sram dram spans)) (mems_declared rest) fresh) typed.0)
        (stages_good (after scope (load_sram sram dram spans)) (no_run run.values.elsewhere) (n + length (beside (load_sram sram dram spans) rest ending) + length (inside (load_sram sram dram spans))) rest ending c (omega (arith, le)) (later, later) (fresh_back p scope.mems (mems_in (load_sram sram dram spans)) (mems_declared rest) fresh) typed.1)
    stages_good scope run n (more_stmt (stmt place (load_line line dram spans)) rest) ending c le low fresh typed =
        let later : SourcesHave (Low p (n + length (beside (load_line line dram spans) rest ending) + length (inside (load_line line dram spans)))) run.values.elsewhere = low_more n (n + length (beside (load_line line dram spans) rest ending) + length (inside (load_line line dram spans))) (omega arith) run.values.elsewhere low.1 in
        later_good run n (load_line line dram spans) (node p.mems counters run.values.elsewhere n (n + length (beside (load_line line dram spans) rest ending)) (load_line line dram spans)) (stages p.mems counters (no_run run.values.elsewhere) (n + length (beside (load_line line dram spans) rest ending) + length (inside (load_line line dram spans))) rest ending c)
        (node_good scope (load_line line dram spans) run.values.elsewhere n (n + length (beside (load_line line dram spans) rest ending)) le (omega arith) low.1 (fresh_front p scope.mems (mems_in (load_line line dram spans)) (mems_declared rest) fresh) typed.0)
        (stages_good (after scope (load_line line dram spans)) (no_run run.values.elsewhere) (n + length (beside (load_line line dram spans) rest ending) + length (inside (load_line line dram spans))) rest ending c (omega (arith, le)) (later, later) (fresh_back p scope.mems (mems_in (load_line line dram spans)) (mems_declared rest) fresh) typed.1)
    stages_good scope run n (more_stmt (stmt place (store dram spans sram)) rest) ending c le low fresh typed =
        let later : SourcesHave (Low p (n + length (beside (store dram spans sram) rest ending) + length (inside (store dram spans sram)))) run.values.elsewhere = low_more n (n + length (beside (store dram spans sram) rest ending) + length (inside (store dram spans sram))) (omega arith) run.values.elsewhere low.1 in
        later_good run n (store dram spans sram) (node p.mems counters run.values.elsewhere n (n + length (beside (store dram spans sram) rest ending)) (store dram spans sram)) (stages p.mems counters (no_run run.values.elsewhere) (n + length (beside (store dram spans sram) rest ending) + length (inside (store dram spans sram))) rest ending c)
        (node_good scope (store dram spans sram) run.values.elsewhere n (n + length (beside (store dram spans sram) rest ending)) le (omega arith) low.1 (fresh_front p scope.mems (mems_in (store dram spans sram)) (mems_declared rest) fresh) typed.0)
        (stages_good (after scope (store dram spans sram)) (no_run run.values.elsewhere) (n + length (beside (store dram spans sram) rest ending) + length (inside (store dram spans sram))) rest ending c (omega (arith, le)) (later, later) (fresh_back p scope.mems (mems_in (store dram spans sram)) (mems_declared rest) fresh) typed.1)
    stages_good scope run n (more_stmt (stmt place (gather sram dram places e)) rest) ending c le low fresh typed =
        let later : SourcesHave (Low p (n + length (beside (gather sram dram places e) rest ending) + length (inside (gather sram dram places e)))) run.values.elsewhere = low_more n (n + length (beside (gather sram dram places e) rest ending) + length (inside (gather sram dram places e))) (omega arith) run.values.elsewhere low.1 in
        later_good run n (gather sram dram places e) (node p.mems counters run.values.elsewhere n (n + length (beside (gather sram dram places e) rest ending)) (gather sram dram places e)) (stages p.mems counters (no_run run.values.elsewhere) (n + length (beside (gather sram dram places e) rest ending) + length (inside (gather sram dram places e))) rest ending c)
        (node_good scope (gather sram dram places e) run.values.elsewhere n (n + length (beside (gather sram dram places e) rest ending)) le (omega arith) low.1 (fresh_front p scope.mems (mems_in (gather sram dram places e)) (mems_declared rest) fresh) typed.0)
        (stages_good (after scope (gather sram dram places e)) (no_run run.values.elsewhere) (n + length (beside (gather sram dram places e) rest ending) + length (inside (gather sram dram places e))) rest ending c (omega (arith, le)) (later, later) (fresh_back p scope.mems (mems_in (gather sram dram places e)) (mems_declared rest) fresh) typed.1)
    stages_good scope run n (more_stmt (stmt place (scatter dram places e sram)) rest) ending c le low fresh typed =
        let later : SourcesHave (Low p (n + length (beside (scatter dram places e sram) rest ending) + length (inside (scatter dram places e sram)))) run.values.elsewhere = low_more n (n + length (beside (scatter dram places e sram) rest ending) + length (inside (scatter dram places e sram))) (omega arith) run.values.elsewhere low.1 in
        later_good run n (scatter dram places e sram) (node p.mems counters run.values.elsewhere n (n + length (beside (scatter dram places e sram) rest ending)) (scatter dram places e sram)) (stages p.mems counters (no_run run.values.elsewhere) (n + length (beside (scatter dram places e sram) rest ending) + length (inside (scatter dram places e sram))) rest ending c)
        (node_good scope (scatter dram places e sram) run.values.elsewhere n (n + length (beside (scatter dram places e sram) rest ending)) le (omega arith) low.1 (fresh_front p scope.mems (mems_in (scatter dram places e sram)) (mems_declared rest) fresh) typed.0)
        (stages_good (after scope (scatter dram places e sram)) (no_run run.values.elsewhere) (n + length (beside (scatter dram places e sram) rest ending) + length (inside (scatter dram places e sram))) rest ending c (omega (arith, le)) (later, later) (fresh_back p scope.mems (mems_in (scatter dram places e sram)) (mems_declared rest) fresh) typed.1)
    stages_good scope run n (more_stmt (stmt place (block style body)) rest) ending c le low fresh typed =
        let later : SourcesHave (Low p (n + length (beside (block style body) rest ending) + length (inside (block style body)))) run.values.elsewhere = low_more n (n + length (beside (block style body) rest ending) + length (inside (block style body))) (omega arith) run.values.elsewhere low.1 in
        later_good run n (block style body) (node p.mems counters run.values.elsewhere n (n + length (beside (block style body) rest ending)) (block style body)) (stages p.mems counters (no_run run.values.elsewhere) (n + length (beside (block style body) rest ending) + length (inside (block style body))) rest ending c)
        (node_good scope (block style body) run.values.elsewhere n (n + length (beside (block style body) rest ending)) le (omega arith) low.1 (fresh_front p scope.mems (mems_in (block style body)) (mems_declared rest) fresh) typed.0)
        (stages_good (after scope (block style body)) (no_run run.values.elsewhere) (n + length (beside (block style body) rest ending) + length (inside (block style body))) rest ending c (omega (arith, le)) (later, later) (fresh_back p scope.mems (mems_in (block style body)) (mems_declared rest) fresh) typed.1)
    stages_good scope run n (more_stmt (stmt place (foreach style loops body)) rest) ending c le low fresh typed =
        let later : SourcesHave (Low p (n + length (beside (foreach style loops body) rest ending) + length (inside (foreach style loops body)))) run.values.elsewhere = low_more n (n + length (beside (foreach style loops body) rest ending) + length (inside (foreach style loops body))) (omega arith) run.values.elsewhere low.1 in
        later_good run n (foreach style loops body) (node p.mems counters run.values.elsewhere n (n + length (beside (foreach style loops body) rest ending)) (foreach style loops body)) (stages p.mems counters (no_run run.values.elsewhere) (n + length (beside (foreach style loops body) rest ending) + length (inside (foreach style loops body))) rest ending c)
        (node_good scope (foreach style loops body) run.values.elsewhere n (n + length (beside (foreach style loops body) rest ending)) le (omega arith) low.1 (fresh_front p scope.mems (mems_in (foreach style loops body)) (mems_declared rest) fresh) typed.0)
        (stages_good (after scope (foreach style loops body)) (no_run run.values.elsewhere) (n + length (beside (foreach style loops body) rest ending) + length (inside (foreach style loops body))) rest ending c (omega (arith, le)) (later, later) (fresh_back p scope.mems (mems_in (foreach style loops body)) (mems_declared rest) fresh) typed.1)
    stages_good scope run n (more_stmt (stmt place (reduce style fold acc loops body e comb)) rest) ending c le low fresh typed =
        let later : SourcesHave (Low p (n + length (beside (reduce style fold acc loops body e comb) rest ending) + length (inside (reduce style fold acc loops body e comb)))) run.values.elsewhere = low_more n (n + length (beside (reduce style fold acc loops body e comb) rest ending) + length (inside (reduce style fold acc loops body e comb))) (omega arith) run.values.elsewhere low.1 in
        later_good run n (reduce style fold acc loops body e comb) (node p.mems counters run.values.elsewhere n (n + length (beside (reduce style fold acc loops body e comb) rest ending)) (reduce style fold acc loops body e comb)) (stages p.mems counters (no_run run.values.elsewhere) (n + length (beside (reduce style fold acc loops body e comb) rest ending) + length (inside (reduce style fold acc loops body e comb))) rest ending c)
        (node_good scope (reduce style fold acc loops body e comb) run.values.elsewhere n (n + length (beside (reduce style fold acc loops body e comb) rest ending)) le (omega arith) low.1 (fresh_front p scope.mems (mems_in (reduce style fold acc loops body e comb)) (mems_declared rest) fresh) typed.0)
        (stages_good (after scope (reduce style fold acc loops body e comb)) (no_run run.values.elsewhere) (n + length (beside (reduce style fold acc loops body e comb) rest ending) + length (inside (reduce style fold acc loops body e comb))) rest ending c (omega (arith, le)) (later, later) (fresh_back p scope.mems (mems_in (reduce style fold acc loops body e comb)) (mems_declared rest) fresh) typed.1)
    stages_good scope run n (more_stmt (stmt place (mem_reduce style acc loops body part comb)) rest) ending c le low fresh typed =
        let later : SourcesHave (Low p (n + length (beside (mem_reduce style acc loops body part comb) rest ending) + length (inside (mem_reduce style acc loops body part comb)))) run.values.elsewhere = low_more n (n + length (beside (mem_reduce style acc loops body part comb) rest ending) + length (inside (mem_reduce style acc loops body part comb))) (omega arith) run.values.elsewhere low.1 in
        later_good run n (mem_reduce style acc loops body part comb) (node p.mems counters run.values.elsewhere n (n + length (beside (mem_reduce style acc loops body part comb) rest ending)) (mem_reduce style acc loops body part comb)) (stages p.mems counters (no_run run.values.elsewhere) (n + length (beside (mem_reduce style acc loops body part comb) rest ending) + length (inside (mem_reduce style acc loops body part comb))) rest ending c)
        (node_good scope (mem_reduce style acc loops body part comb) run.values.elsewhere n (n + length (beside (mem_reduce style acc loops body part comb) rest ending)) le (omega arith) low.1 (fresh_front p scope.mems (mems_in (mem_reduce style acc loops body part comb)) (mems_declared rest) fresh) typed.0)
        (stages_good (after scope (mem_reduce style acc loops body part comb)) (no_run run.values.elsewhere) (n + length (beside (mem_reduce style acc loops body part comb) rest ending) + length (inside (mem_reduce style acc loops body part comb))) rest ending c (omega (arith, le)) (later, later) (fresh_back p scope.mems (mems_in (mem_reduce style acc loops body part comb)) (mems_declared rest) fresh) typed.1)
    stages_good scope run n (more_stmt (stmt place (fsm start tested test state body last next)) rest) ending c le low fresh typed =
        let later : SourcesHave (Low p (n + length (beside (fsm start tested test state body last next) rest ending) + length (inside (fsm start tested test state body last next)))) run.values.elsewhere = low_more n (n + length (beside (fsm start tested test state body last next) rest ending) + length (inside (fsm start tested test state body last next))) (omega arith) run.values.elsewhere low.1 in
        later_good run n (fsm start tested test state body last next) (node p.mems counters run.values.elsewhere n (n + length (beside (fsm start tested test state body last next) rest ending)) (fsm start tested test state body last next)) (stages p.mems counters (no_run run.values.elsewhere) (n + length (beside (fsm start tested test state body last next) rest ending) + length (inside (fsm start tested test state body last next))) rest ending c)
        (node_good scope (fsm start tested test state body last next) run.values.elsewhere n (n + length (beside (fsm start tested test state body last next) rest ending)) le (omega arith) low.1 (fresh_front p scope.mems (mems_in (fsm start tested test state body last next)) (mems_declared rest) fresh) typed.0)
        (stages_good (after scope (fsm start tested test state body last next)) (no_run run.values.elsewhere) (n + length (beside (fsm start tested test state body last next) rest ending) + length (inside (fsm start tested test state body last next))) rest ending c (omega (arith, le)) (later, later) (fresh_back p scope.mems (mems_in (fsm start tested test state body last next)) (mems_declared rest) fresh) typed.1)
    stages_good scope run n (more_stmt (stmt place (branch test first second)) rest) ending c le low fresh typed =
        let later : SourcesHave (Low p (n + length (beside (branch test first second) rest ending) + length (inside (branch test first second)))) run.values.elsewhere = low_more n (n + length (beside (branch test first second) rest ending) + length (inside (branch test first second))) (omega arith) run.values.elsewhere low.1 in
        later_good run n (branch test first second) (node p.mems counters run.values.elsewhere n (n + length (beside (branch test first second) rest ending)) (branch test first second)) (stages p.mems counters (no_run run.values.elsewhere) (n + length (beside (branch test first second) rest ending) + length (inside (branch test first second))) rest ending c)
        (node_good scope (branch test first second) run.values.elsewhere n (n + length (beside (branch test first second) rest ending)) le (omega arith) low.1 (fresh_front p scope.mems (mems_in (branch test first second)) (mems_declared rest) fresh) typed.0)
        (stages_good (after scope (branch test first second)) (no_run run.values.elsewhere) (n + length (beside (branch test first second) rest ending) + length (inside (branch test first second))) rest ending c (omega (arith, le)) (later, later) (fresh_back p scope.mems (mems_in (branch test first second)) (mems_declared rest) fresh) typed.1)

    node_good : (scope : Scope) (k : PlainStmtKind) (sources : Sources) (b n : ℕ) → length (written_mems p.mems) ≤ b → b ≤ n → SourcesHave (Low p b) sources → IsFresh p scope.mems (mems_in k) → StmtTyped p scope k → StreamsIn core (node p.mems counters sources b n k)
    node_good scope (load_sram sram dram spans) sources b n le more low fresh typed = either_good (slice_lanes spans == 1) _ _ tt tt
    node_good scope (load_line line dram spans) sources b n le more low fresh typed = either_good (slice_lanes spans == 1) _ _ tt tt
    node_good scope (store dram spans sram) sources b n le more low fresh typed = either_good (slice_lanes spans == 1) _ _ tt tt
    node_good scope (gather sram dram places e) sources b n le more low fresh typed = tt
    node_good scope (scatter dram places e sram) sources b n le more low fresh typed = tt
    node_good scope (block style body) sources b n le more low fresh typed =
        let here : SourcesHave (Low p n) sources = low_more b n more sources low in
        block_good scope style sources n body (omega (arith, le, more)) here fresh typed (stages_good scope (no_run sources) n body no_more nothing (omega (arith, le, more)) (here, here) fresh typed)
    node_good scope (foreach style loops body) sources b n le more low fresh typed =
        let here : SourcesHave (Low p n) sources = low_more b n more sources low in
        body_good sources n (counters_of p.mems sources b loops) style body no_more nothing _ (loop_style style typed.0)
        (stages_good (with_counters scope loops) (no_run sources) n body no_more nothing (omega (arith, le, more)) (here, here) (fresh_loops scope loops (mems_declared body) fresh) typed.2)
    node_good scope (reduce style fold acc loops body e comb) sources b n le more low fresh typed =
        let here : SourcesHave (Low p n) sources = low_more b n more sources low in
        body_good sources n (counters_of p.mems sources b loops) style body (ending_of loops e) (combines p.mems fold acc (b + length (registers_for is_early (bounds_of loops))) comb e) _ (loop_style style typed.0)
        (stages_good (with_counters scope loops) (no_run sources) n body (ending_of loops e) (combines p.mems fold acc (b + length (registers_for is_early (bounds_of loops))) comb e) (omega (arith, le, more)) (here, here) (fresh_loops scope loops (mems_declared body) fresh) typed.2)
    node_good scope (mem_reduce style acc loops body part comb) sources b n le more low fresh typed =
        let here : SourcesHave (Low p n) sources = low_more b n more sources low in (
          (λ e. absurd (true≢false (sym e ∙ loop_style style typed.0))),
          stages_good (with_counters scope loops) (no_run sources) n body no_more (reduces_elements part (mem_number p.mems acc) (b + length (registers_for is_early (bounds_of loops))) comb) (omega (arith, le, more)) (here, here) (fresh_loops scope loops (mems_declared body) fresh) typed.2,
        )
    node_good scope (fsm start tested test state body last next) sources b n le more low fresh typed =
        let here : SourcesHave (Low p (suc n)) sources = low_more b (suc n) (omega (arith, more)) sources low in
        let kept : Sources = with_state sources tested state last n in
        let is : Low p (suc n) n = (omega (arith, le, more), omega arith) in
        let P = Low p (suc n) in
        let known : SourcesHave (Low p (suc n)) kept = changed_have P _ last (in_register n) (changed_have P _ state (in_register n) (changed_have P sources tested (in_register n) here is) is) is in
        body_good kept (suc n) [] Pipe body no_more nothing _ refl
        (stages_good (with_val scope state (type_of start)) (no_run kept) (suc n) body no_more nothing (omega (arith, le, more)) (known, known) fresh typed.4)
    node_good scope (branch test first second) sources b n le more low fresh typed =
        let m : ℕ = n + length (registers_in first no_more) in
        let here : SourcesHave (Low p n) sources = low_more b n more sources low in
        let later : SourcesHave (Low p m) sources = low_more b m (omega (arith, more)) sources low in (
          body_good sources n [] Pipe first no_more nothing _ refl (stages_good scope (no_run sources) n first no_more nothing (omega (arith, le, more)) (here, here) (fresh_front p scope.mems (mems_declared first) (mems_declared second) fresh) typed.1),
          body_good sources m [] Pipe second no_more nothing _ refl (stages_good scope (no_run sources) m second no_more nothing (omega (arith, le, more)) (later, later) (fresh_back p scope.mems (mems_declared first) (mems_declared second) fresh) typed.2),
        )
    node_good scope (declare m) sources b n le more low fresh typed = tt
    node_good scope (name v x) sources b n le more low fresh typed = tt
    node_good scope (set_reg m x) sources b n le more low fresh typed = tt
    node_good scope (set_out m x) sources b n le more low fresh typed = tt
    node_good scope (set_sram m xs x) sources b n le more low fresh typed = tt
    node_good scope (enq m x) sources b n le more low fresh typed = tt
