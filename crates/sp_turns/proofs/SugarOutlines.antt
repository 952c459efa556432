-- The core of a program is outlined as the program is.
use Rattle.std.proofs.Common.{◌≡◌, ℕ, zero, suc, ◌+◌, ◌-◌, ◌*◌, ◌/◌, ◌<◌, ◌≤◌, ◌^◌, Bool, true, false, ◌==◌, List, [], ◌∷◌, ◌++◌, None, refl, ◌∙◌, ap, subst, arith, if◌then◌else◌}
use Rattle.std.proofs.lemmas.Bool.{false≢true}
use Rattle.std.proofs.lemmas.Int.{ints}
use Rattle.std.specs.Prelude.{pos, ◌-ℤ◌, length, slice_index_or, All}
use Rattle.sp_words.specs.declared.kind.Style.{Style}
use Rattle.sp_words.specs.declared.kind.Style.TheVariants.{Pipe}
use Rattle.sp_words.specs.declared.types.Ty.{Ty}
use Rattle.sp_words.specs.Interface.{word_count, IsCount}
use Rattle.sp_words.specs.Types.{int_type}
use Rattle.sp_tree.specs.declared.statement.Comb.{Comb}
use Rattle.sp_tree.specs.Declarations.{IsDeclaration}
use Rattle.sp_tree.specs.Expressions.{mem, dims}
use Rattle.sp_tree.specs.PlainExpression.{PlainExpr, type_of}
use Rattle.sp_tree.specs.PlainProgram.{PlainMem, PlainProgram, no_mem}
use Rattle.sp_tree.specs.PlainStatement as tree
use Rattle.sp_tree.specs.PlainStatement.{PlainSpan, PlainStmtKind, PlainStmts, stmt, declare, name, set_reg, set_out, set_sram, enq, load_sram, load_line, store, gather, scatter, block, foreach, reduce, mem_reduce, fsm, branch, no_stmt, more_stmt}
use Rattle.sp_tree.specs.Structure.{slice_lanes, is_inner}
use Rattle.sp_tree.specs.Typing.{Scope, BoundsTyped, StmtTyped, BodyTyped, after, with_val, with_counters}
use Rattle.sp_core.specs.Elements.{index_value, natural, count_below}
use Rattle.sp_core.specs.History.{Entry, Bounds, gave}
use Rattle.sp_core.specs.Operations.{operations, operations_after}
use Rattle.sp_core.specs.PlainCore as core_tree
use Rattle.sp_core.specs.PlainCore.{PlainOp, PlainCounter, PlainNode, PlainStages, PlainCore, inner, outer, load, sparse, no_stage, more_stage}
use Rattle.sp_core.specs.Scope as counters
use Rattle.sp_core.specs.Scope.{plainly, loops_of, counts_of}
use Rattle.sp_core.specs.Sequential.{bounds}
use Rattle.sp_core.specs.Step.{went, pure, ◌>>=◌, in_order}
use Rattle.sp_core.specs.Store.{Store}
use Rattle.sp_sugar.specs.Combination.{element_counters, element_loop}
use Rattle.sp_sugar.specs.Early.{after as after_word, spans_of, bounds_of, is_early, is_early_slice, registers_for, counters_of, bound_stages, slice_stage, early_stages}
use Rattle.sp_core.specs.declared.node.SparseKind.TheVariants.{WideLoad, WideStore}
use Rattle.sp_sugar.specs.Numbers.{mem_number, dram_number}
use Rattle.sp_sugar.specs.Operations.{Code, literal_op, read_op, write_op, alone, code}
use Rattle.sp_sugar.specs.Registers.{ending_of, beside, inside, registers_in}
use Rattle.sp_sugar.specs.Runs.{Run, no_run, next_code}
use Rattle.sp_sugar.specs.Stages.{Combines, nothing, folds, reduces, reduces_elements, combines, combination_stage, run_stage, last_stages, load_node, store_node, style_of, inner_node, outer_node, body_node, stages, node}
use Rattle.sp_sugar.specs.Uses.{Ending, no_more, in_last_run, in_combination}
use Rattle.sp_sugar.specs.Values.{Sources, with_state}
use Rattle.sp_sugar.proofs.OwnerCounts.{IsStageKind}
use Rattle.sp_sugar.proofs.StepLemmas.{core_apart, same_core_answer}
use Rattle.sp_outcomes.proofs.ElementLoops.{small_value, first_count, other_counts}
use Rattle.sp_turns.proofs.Outlines.{Outlines, loop_of, transfer as transferred, no_outline, only, joined}
use Rattle.sp_turns.proofs.ProgramTurns.{outline, outline_of}
use Rattle.sp_turns.proofs.CoreRounds.{HaveSteps, Outlined, StagesOutlined, IsAtMost, alone_small, loop_small}

-- each memory has dimensions that are counts
dims_counted : (mems : List PlainMem) → All IsDeclaration mems → (m : ℕ) → All IsCount (slice_index_or mems m no_mem).dims
dims_counted [] h m = λ k e lt. absurd (omega (arith, lt))
dims_counted (x ∷ mems) h zero = (h 0 no_mem (omega arith)).dims
dims_counted (x ∷ mems) h (suc m) = dims_counted mems (λ k e lt. h (suc k) e (omega (arith, lt))) m

module _ (core : PlainCore) (most : ℕ) (scope : counters.Scope) where
  literal_runs : (w : ℕ) (s t : Store) (es : List Entry) → operations core scope (literal_op int_type w ∷ []) s ≡ went es t → gave w ∷ [] ≡ es
  unfolding operations_after pure ◌>>=◌
  literal_runs w s t es e = same_core_answer (gave w ∷ []) es s t e

  counted : (d : ℕ) → d < 2 ^ 31 → count_below (index_value 0) (index_value d) 1 ≡ d
  counted d lt =
      ap (λ z. count_below z (index_value d) 1) (small_value 0 (omega arith)) ∙ ap (λ z. count_below (pos 0) z 1) (small_value d lt)
      ∙ ap (λ z. (natural z + (1 - 1)) / 1) (difference d) ∙ so_many d
    where
      difference : (d : ℕ) → pos d -ℤ pos 0 ≡ pos d
      difference d = omega (arith, ints)

      so_many : (d : ℕ) → (d + (1 - 1)) / 1 ≡ d
      so_many d = omega arith

  -- the counters of the elements of a memory count its dimensions
  element_counts : (c : ℕ) (ds : List ℕ) (s t : Store) (bs : List Bounds) → All IsCount ds → in_order (bounds core plainly most scope) (element_counters c ds) s ≡ went bs t → word_count (counts_of (loops_of plainly (element_counters c ds) bs)) ≡ word_count ds
  unfolding in_order pure
  element_counts c [] s t bs h e = refl
  element_counts c (d ∷ ds) s t bs h e =
      let counter : PlainCounter = record { number = c; from = literal_op int_type 0 ∷ []; until = literal_op int_type d ∷ []; by = 1; par = 1 } in
      let x = core_apart (bounds core plainly most scope counter) (λ first. in_order (bounds core plainly most scope) (element_counters (suc c) ds) >>= (λ others. pure (first ∷ others))) s bs t e in
      let y = core_apart (in_order (bounds core plainly most scope) (element_counters (suc c) ds)) (λ others. pure (x.answer ∷ others)) x.store bs t x.second in
      let z = core_apart (operations core scope (literal_op int_type 0 ∷ [])) (λ a. operations core scope (literal_op int_type d ∷ []) >>= (λ b. pure (record { from = a; until = b }))) s x.answer x.store x.first in
      let w = core_apart (operations core scope (literal_op int_type d ∷ [])) (λ b. pure (record { from = z.answer; until = b })) z.store x.answer x.store z.second in
      let first : Bounds = record { from = z.answer; until = w.answer } in
      let is : Bounds = record { from = gave 0 ∷ []; until = gave d ∷ [] } in
      let one : is ≡ x.answer =
      ap (λ a. record { from = a; until = gave d ∷ [] }) (literal_runs 0 s z.store z.answer z.first)
      ∙ ap (λ b. record { from = z.answer; until = b }) (literal_runs d z.store w.store w.answer w.first)
      ∙ same_core_answer first x.answer w.store x.store w.second in
      let all : is ∷ y.answer ≡ bs = ap (λ b. b ∷ y.answer) one ∙ same_core_answer (x.answer ∷ y.answer) bs y.store t y.second in
      subst (λ l. word_count (counts_of (loops_of plainly (element_counters c (d ∷ ds)) l)) ≡ word_count (d ∷ ds)) all
      (ap (λ n. n * word_count (counts_of (loops_of plainly (element_counters (suc c) ds) y.answer))) (counted d (first_count d ds h).1)
      ∙ ap (λ n. d * n) (element_counts (suc c) ds x.store y.store y.answer (other_counts d ds h) y.first))

module _ (p : PlainProgram) (core : PlainCore) (declared : All IsDeclaration p.mems) where
  abbrev number : ℕ
  number = length p.counters

  -- how often the combination of a loop goes around in each iteration
  abbrev weight : Combines → ℕ
  weight (reduces_elements part acc begun comb) = word_count (dims p.mems part)
  weight _ = 0

  elements_small : (part acc begun : ℕ) (ty : Ty) (comb : Comb) → IsAtMost core (element_loop p.mems number (dims p.mems part) part acc begun ty comb) (word_count (dims p.mems part))
  elements_small part acc begun ty comb =
      loop_small core (element_counters number (dims p.mems part)) _ _ _ (word_count (dims p.mems part))
      (λ most scope s u bs e. let f = element_counts core most scope number (dims p.mems part) s u bs (dims_counted p.mems declared part) e in omega (arith, f))

  run_outlined : (ops : List PlainOp) (rest : PlainStages) (m : ℕ) (ps : Outlines) → StagesOutlined core rest m ps → StagesOutlined core (run_stage ops rest) m ps
  run_outlined [] rest m ps o = o
  run_outlined (op ∷ ops) rest m ps o = (refl, refl, no_outline, ps, refl, o, refl)

  if_outlined : (b : Bool) (one two : PlainStages) (m : ℕ) (ps : Outlines) → StagesOutlined core one m ps → StagesOutlined core two m ps → StagesOutlined core (if b then one else two) m ps
  if_outlined true one two m ps o q = o
  if_outlined false one two m ps o q = q

  bounds_outlined : (sources : Sources) (r : ℕ) (es : List PlainExpr) (rest : PlainStages) (m : ℕ) (ps : Outlines) → StagesOutlined core rest m ps → StagesOutlined core (bound_stages p.mems sources r es rest) m ps
  bounds_outlined sources r [] rest m ps o = o
  bounds_outlined sources r (e ∷ es) rest m ps o =
      if_outlined (is_early e) _ _ m ps (refl, refl, no_outline, ps, refl, bounds_outlined sources (suc r) es rest m ps o, refl) (bounds_outlined sources r es rest m ps o)

  slice_outlined : (sources : Sources) (r : ℕ) (spans : List PlainSpan) (rest : PlainStages) (m : ℕ) (ps : Outlines) → StagesOutlined core rest m ps → StagesOutlined core (slice_stage p.mems sources r spans rest) m ps
  slice_outlined sources r spans rest m ps o = if_outlined (is_early_slice spans) _ _ m ps (refl, refl, no_outline, ps, refl, o, refl) o

  early_outlined : (sources : Sources) (r : ℕ) (kind : PlainStmtKind) (rest : PlainStages) (m : ℕ) (ps : Outlines) → StagesOutlined core rest m ps → StagesOutlined core (early_stages p.mems sources r kind rest) m ps
  early_outlined sources r (load_sram sram dram spans) rest m ps o = slice_outlined sources r spans rest m ps o
  early_outlined sources r (load_line line dram spans) rest m ps o = slice_outlined sources r spans rest m ps o
  early_outlined sources r (store dram spans sram) rest m ps o = slice_outlined sources r spans rest m ps o
  early_outlined sources r (gather sram dram places n) rest m ps o = bounds_outlined sources r (n ∷ []) rest m ps o
  early_outlined sources r (scatter dram places n sram) rest m ps o = bounds_outlined sources r (n ∷ []) rest m ps o
  early_outlined sources r (foreach style loops body) rest m ps o = bounds_outlined sources r (bounds_of loops) rest m ps o
  early_outlined sources r (reduce style fold acc loops body e comb) rest m ps o = bounds_outlined sources r (bounds_of loops) rest m ps o
  early_outlined sources r (mem_reduce style acc loops body part comb) rest m ps o = bounds_outlined sources r (bounds_of loops) rest m ps o
  early_outlined sources r _ rest m ps o = o

  -- the combination of a word
  word_outlined : (x : Code) (c : Combines) (m : ℕ) → StagesOutlined core (combination_stage p.mems number x c) m no_outline
  word_outlined x c m = (refl, refl, 0, m, alone_small core _ _ _ 0, omega arith, refl)

  place_outlined : (run : Run) (e : PlainExpr) (c : Combines) (m : ℕ) → StagesOutlined core (run_stage run.ops (combination_stage p.mems number (code p.mems run.values.elsewhere 0 e) c)) m no_outline
  place_outlined run e c m = run_outlined run.ops (combination_stage p.mems number (code p.mems run.values.elsewhere 0 e) c) m no_outline (word_outlined (code p.mems run.values.elsewhere 0 e) c m)

  abbrev word_run : Run → ℕ → PlainExpr → List PlainOp
  word_run run n e = let x : Code = next_code p.mems run e in run.ops ++ x.ops ++ write_op (type_of e) n (x.word ∷ []) ∷ []

  crossing_outlined : (run : Run) (n : ℕ) (e : PlainExpr) (c : Combines) (m : ℕ) → StagesOutlined core (run_stage (word_run run n e) (combination_stage p.mems number (alone 0 (read_op (type_of e) n [])) c)) m no_outline
  crossing_outlined run n e c m = run_outlined (word_run run n e) (combination_stage p.mems number (alone 0 (read_op (type_of e) n [])) c) m no_outline (word_outlined (alone 0 (read_op (type_of e) n [])) c m)

  elements_last : (run : Run) (part acc begun : ℕ) (ty : Ty) (comb : Comb) → StagesOutlined core (run_stage run.ops (more_stage 0 0 true (element_loop p.mems number (dims p.mems part) part acc begun ty comb) no_stage)) (word_count (dims p.mems part)) no_outline
  elements_last run part acc begun ty comb =
      run_outlined run.ops (more_stage 0 0 true (element_loop p.mems number (dims p.mems part) part acc begun ty comb) no_stage) (word_count (dims p.mems part)) no_outline
      (refl, refl, word_count (dims p.mems part), 0, elements_small part acc begun ty comb, omega arith, refl)

  last_outlined : (run : Run) (n : ℕ) (ending : Ending) (c : Combines) → StagesOutlined core (last_stages p.mems number run n ending c) (weight c) no_outline
  last_outlined run n ending (reduces_elements part acc begun comb) = elements_last run part acc begun (mem p.mems part).ty comb
  last_outlined run n no_more nothing = run_outlined run.ops no_stage 0 no_outline refl
  last_outlined run n no_more (folds acc comb e) = run_outlined run.ops no_stage 0 no_outline refl
  last_outlined run n no_more (reduces acc begun comb e) = run_outlined run.ops no_stage 0 no_outline refl
  last_outlined run n (in_combination x) nothing = place_outlined run x nothing 0
  last_outlined run n (in_combination x) (folds acc comb e) = place_outlined run x (folds acc comb e) 0
  last_outlined run n (in_combination x) (reduces acc begun comb e) = place_outlined run x (reduces acc begun comb e) 0
  last_outlined run n (in_last_run x) nothing = crossing_outlined run n x nothing 0
  last_outlined run n (in_last_run x) (folds acc comb e) = crossing_outlined run n x (folds acc comb e) 0
  last_outlined run n (in_last_run x) (reduces acc begun comb e) = crossing_outlined run n x (reduces acc begun comb e) 0

  -- an inner body counts nothing
  inner_nothing : (body : PlainStmts) → is_inner body ≡ true → outline p.mems body ≡ no_outline
  unfolding outline
  inner_nothing no_stmt e = refl
  inner_nothing (more_stmt (stmt place (declare m)) rest) e = inner_nothing rest e
  inner_nothing (more_stmt (stmt place (name v x)) rest) e = inner_nothing rest e
  inner_nothing (more_stmt (stmt place (set_reg m x)) rest) e = inner_nothing rest e
  inner_nothing (more_stmt (stmt place (set_out m x)) rest) e = inner_nothing rest e
  inner_nothing (more_stmt (stmt place (set_sram m is x)) rest) e = inner_nothing rest e
  inner_nothing (more_stmt (stmt place (enq m x)) rest) e = inner_nothing rest e
  inner_nothing (more_stmt (stmt place kind) rest) e = absurd (false≢true e)

  steps_of : (scope : Scope) (sources : Sources) (r : ℕ) (loops : List tree.PlainCounter) → BoundsTyped p scope loops → HaveSteps (counters_of p.mems sources r loops)
  steps_of scope sources r [] typed = tt
  steps_of scope sources r (c ∷ loops) typed = (typed.2.0, steps_of scope sources (after_word is_early (after_word is_early r c.from) c.until) loops typed.4)

  -- a body alone, and in a loop
  body_outlined : (sources : Sources) (n : ℕ) (style : Style) (body : PlainStmts) (ending : Ending) (all : PlainStages) → StagesOutlined core all 0 (outline p.mems body) → Outlined core (body_node p.mems number sources n [] style body ending nothing all) (outline p.mems body)
  body_outlined sources n style body ending all o = go (is_inner body) refl
    where
      go : (b : Bool) → is_inner body ≡ b → Outlined core (if b then inner_node p.mems number sources [] body nothing else outer_node p.mems number n [] style body ending all) (outline p.mems body)
      go true e = inner_nothing body e
      go false e = o

  one_loop : (m : ℕ) (body : PlainStmts) → is_inner body ≡ true → only (loop_of m (outline p.mems body)) ≡ only (loop_of m no_outline)
  one_loop m body e = ap (λ o. only (loop_of m o)) (inner_nothing body e)

  inner_loop : (sources : Sources) (c : PlainCounter) (others : List PlainCounter) (body : PlainStmts) (how : Combines) → is_inner body ≡ true → Outlined core (inner_node p.mems number sources (c ∷ others) body how) (only (loop_of 0 (outline p.mems body)))
  inner_loop sources c others body nothing e = one_loop 0 body e
  inner_loop sources c others body (folds acc comb x) e = one_loop 0 body e
  inner_loop sources c others body (reduces acc begun comb x) e = one_loop 0 body e
  inner_loop sources c others body (reduces_elements part acc begun comb) e = one_loop 0 body e

  loop_outlined : (sources : Sources) (n : ℕ) (loops : List PlainCounter) (style : Style) (body : PlainStmts) (ending : Ending) (how : Combines) (all : PlainStages) → 1 ≤ length loops → HaveSteps loops → StagesOutlined core all 0 (outline p.mems body)
      → Outlined core (body_node p.mems number sources n loops style body ending how all) (only (loop_of 0 (outline p.mems body)))
  loop_outlined sources n [] style body ending how all some steps o = absurd (omega (arith, some))
  loop_outlined sources n (c ∷ others) style body ending how all some steps o = go (is_inner body) refl
    where
      go : (b : Bool) → is_inner body ≡ b → Outlined core (if b then inner_node p.mems number sources (c ∷ others) body how else outer_node p.mems number n (c ∷ others) style body ending all) (only (loop_of 0 (outline p.mems body)))
      go true e = inner_loop sources c others body how e
      go false e = (0, outline p.mems body, steps, o, refl)

  elements_outlined : (n : ℕ) (loops : List PlainCounter) (style : Style) (body : PlainStmts) (m : ℕ) (all : PlainStages) → 1 ≤ length loops → HaveSteps loops → StagesOutlined core all m (outline p.mems body) → Outlined core (outer_node p.mems number n loops style body no_more all) (only (loop_of m (outline p.mems body)))
  elements_outlined n [] style body m all some steps o = absurd (omega (arith, some))
  elements_outlined n (c ∷ others) style body m all some steps o = (m, outline p.mems body, steps, o, refl)

  load_outlined : (sources : Sources) (n m r : ℕ) (spans : List PlainSpan) → Outlined core (load_node p.mems number sources n m r spans) (only transferred)
  load_outlined sources n m r spans = go (slice_lanes spans == 1)
    where
      go : (b : Bool) → Outlined core (if b then core_tree.load (dram_number p.mems r) (mem_number p.mems m) (spans_of p.mems sources n spans) else sparse WideLoad (dram_number p.mems r) (mem_number p.mems m) None (spans_of p.mems sources n spans) [] (slice_lanes spans)) (only transferred)
      go true = refl
      go false = refl

  store_outlined : (sources : Sources) (n r m : ℕ) (spans : List PlainSpan) → Outlined core (store_node p.mems number sources n r m spans) (only transferred)
  store_outlined sources n r m spans = go (slice_lanes spans == 1)
    where
      go : (b : Bool) → Outlined core (if b then core_tree.store (dram_number p.mems r) (mem_number p.mems m) (spans_of p.mems sources n spans) else sparse WideStore (dram_number p.mems r) (mem_number p.mems m) None (spans_of p.mems sources n spans) [] (slice_lanes spans)) (only transferred)
      go true = refl
      go false = refl

  counters_some : (sources : Sources) (r : ℕ) (loops : List tree.PlainCounter) → 1 ≤ length loops → 1 ≤ length (counters_of p.mems sources r loops)
  counters_some sources r [] some = some
  counters_some sources r (c ∷ loops) some = omega arith

  no_weight : (fold : Bool) (acc begun : ℕ) (comb : Comb) (e : PlainExpr) → weight (combines p.mems fold acc begun comb e) ≡ 0
  no_weight true acc begun comb e = refl
  no_weight false acc begun comb e = refl

  -- a controller or transfer, and what stands before it
  kind_stage : (run : Run) (b n : ℕ) (kind : PlainStmtKind) (later : PlainStages) (m : ℕ) (ps : Outlines) → Outlined core (node p.mems number run.values.elsewhere b n kind) (outline_of p.mems kind) → StagesOutlined core later m ps
      → StagesOutlined core (run_stage run.ops (early_stages p.mems run.values.elsewhere b kind (more_stage 0 0 false (node p.mems number run.values.elsewhere b n kind) later))) m (joined (outline_of p.mems kind) ps)
  kind_stage run b n kind later m ps o q =
      let here : PlainStages = more_stage 0 0 false (node p.mems number run.values.elsewhere b n kind) later in
      run_outlined run.ops (early_stages p.mems run.values.elsewhere b kind here) m (joined (outline_of p.mems kind) ps)
      (early_outlined run.values.elsewhere b kind here m (joined (outline_of p.mems kind) ps) (refl, refl, outline_of p.mems kind, ps, o, q, refl))

  mutual
    unfolding stages node outline

    pub stages_outlined : (scope : Scope) (run : Run) (n : ℕ) (body : PlainStmts) (ending : Ending) (c : Combines) → BodyTyped p scope body → StagesOutlined core (stages p.mems number run n body ending c) (weight c) (outline p.mems body)
    stages_outlined scope run n no_stmt ending c typed = last_outlined run n ending c
    stages_outlined scope run n (more_stmt (stmt place (declare m)) rest) ending c typed = stages_outlined _ _ _ rest ending c typed.1
    stages_outlined scope run n (more_stmt (stmt place (name v e)) rest) ending c typed = stages_outlined _ _ _ rest ending c typed.1
    stages_outlined scope run n (more_stmt (stmt place (set_reg m e)) rest) ending c typed = stages_outlined _ _ _ rest ending c typed.1
    stages_outlined scope run n (more_stmt (stmt place (set_out m e)) rest) ending c typed = stages_outlined _ _ _ rest ending c typed.1
    stages_outlined scope run n (more_stmt (stmt place (set_sram m is e)) rest) ending c typed = stages_outlined _ _ _ rest ending c typed.1
    stages_outlined scope run n (more_stmt (stmt place (enq m e)) rest) ending c typed = stages_outlined _ _ _ rest ending c typed.1
    stages_outlined scope run n (more_stmt (stmt place kind) rest) ending c typed =
        let b : ℕ = n + length (beside kind rest ending) in
        kind_stage run n b kind (stages p.mems number (no_run run.values.elsewhere) (b + length (inside kind)) rest ending c) (weight c) (outline p.mems rest)
        (node_outlined scope run.values.elsewhere n b kind tt typed.0) (stages_outlined (after scope kind) (no_run run.values.elsewhere) (b + length (inside kind)) rest ending c typed.1)

    pub node_outlined : (scope : Scope) (sources : Sources) (b n : ℕ) (kind : PlainStmtKind) → IsStageKind kind → StmtTyped p scope kind → Outlined core (node p.mems number sources b n kind) (outline_of p.mems kind)
    node_outlined scope sources b n (load_sram sram dram spans) stage typed = load_outlined sources b sram dram spans
    node_outlined scope sources b n (load_line line dram spans) stage typed = load_outlined sources b line dram spans
    node_outlined scope sources b n (store dram spans sram) stage typed = store_outlined sources b dram sram spans
    node_outlined scope sources b n (gather sram dram places e) stage typed = refl
    node_outlined scope sources b n (scatter dram places e sram) stage typed = refl
    node_outlined scope sources b n (block style body) stage typed = body_outlined sources n (style_of p.mems number style body) body no_more _ (stages_outlined scope (no_run sources) n body no_more nothing typed)
    node_outlined scope sources b n (foreach style loops body) stage typed =
        loop_outlined sources n (counters_of p.mems sources b loops) style body no_more nothing _ (counters_some sources b loops typed.1.one_to_four.0) (steps_of scope sources b loops typed.1.bounds)
        (stages_outlined (with_counters scope loops) (no_run sources) n body no_more nothing typed.2)
    node_outlined scope sources b n (reduce style fold acc loops body e comb) stage typed =
        let c : Combines = combines p.mems fold acc (b + length (registers_for is_early (bounds_of loops))) comb e in
        loop_outlined sources n (counters_of p.mems sources b loops) style body (ending_of loops e) c _ (counters_some sources b loops typed.1.one_to_four.0) (steps_of scope sources b loops typed.1.bounds)
        (subst (λ m. StagesOutlined core (stages p.mems number (no_run sources) n body (ending_of loops e) c) m (outline p.mems body)) (no_weight fold acc (b + length (registers_for is_early (bounds_of loops))) comb e)
        (stages_outlined (with_counters scope loops) (no_run sources) n body (ending_of loops e) c typed.2))
    node_outlined scope sources b n (mem_reduce style acc loops body part comb) stage typed =
        let c : Combines = reduces_elements part (mem_number p.mems acc) (b + length (registers_for is_early (bounds_of loops))) comb in
        elements_outlined n (counters_of p.mems sources b loops) style body (word_count (dims p.mems acc)) _ (counters_some sources b loops typed.1.one_to_four.0) (steps_of scope sources b loops typed.1.bounds)
        (subst (λ ds. StagesOutlined core (stages p.mems number (no_run sources) n body no_more c) (word_count ds) (outline p.mems body)) typed.9
        (stages_outlined (with_counters scope loops) (no_run sources) n body no_more c typed.2))
    node_outlined scope sources b n (fsm start tested test state body last next) stage typed =
        let kept : Sources = with_state sources tested state last n in
        (outline p.mems body, body_outlined kept (suc n) Pipe body no_more _ (stages_outlined (with_val scope state (type_of start)) (no_run kept) (suc n) body no_more nothing typed.4), refl)
    node_outlined scope sources b n (branch test first second) stage typed =
        let m : ℕ = n + length (registers_in first no_more) in (
          outline p.mems first,
          outline p.mems second,
          body_outlined sources n Pipe first no_more _ (stages_outlined scope (no_run sources) n first no_more nothing typed.1),
          body_outlined sources m Pipe second no_more _ (stages_outlined scope (no_run sources) m second no_more nothing typed.2),
          refl,
        )
    node_outlined scope sources b n (declare m) stage typed = absurd stage
    node_outlined scope sources b n (name v e) stage typed = absurd stage
    node_outlined scope sources b n (set_reg m e) stage typed = absurd stage
    node_outlined scope sources b n (set_out m e) stage typed = absurd stage
    node_outlined scope sources b n (set_sram m is e) stage typed = absurd stage
    node_outlined scope sources b n (enq m e) stage typed = absurd stage

  pub alone_outlined : (scope : Scope) (sources : Sources) (n : ℕ) (style : Style) (body : PlainStmts) → BodyTyped p scope body → Outlined core (body_node p.mems number sources n [] style body no_more nothing (stages p.mems number (no_run sources) n body no_more nothing)) (outline p.mems body)
  alone_outlined scope sources n style body typed = body_outlined sources n style body no_more _ (stages_outlined scope (no_run sources) n body no_more nothing typed)
