-- The core of a program has nodes of the kinds of its statements.
use Rattle.std.proofs.Common.{◌≡◌, ℕ, suc, ◌+◌, ◌==◌, Bool, true, false, [], ◌∷◌, ◌++◌, length, Option, Some, None, refl, sym, if◌then◌else◌, List}
use Rattle.std.proofs.lemmas.Bool.{true≢false, eq-eqb}
use Rattle.sp_words.specs.declared.kind.Style.{Style}
use Rattle.sp_words.specs.declared.kind.Style.TheVariants.{Pipe, Sequential, Parallel, Stream}
use Rattle.sp_tree.specs.Invariant.{IsProgram, outer_scope}
use Rattle.sp_tree.specs.PlainExpression.{type_of}
use Rattle.sp_tree.specs.PlainProgram.{PlainProgram}
use Rattle.sp_tree.specs.PlainStatement.{PlainSpan, PlainStmtKind, PlainStmts, stmt, declare, name, set_reg, set_out, set_sram, enq, load_sram, load_line, store, gather, scatter, block, foreach, reduce, mem_reduce, fsm, branch, no_stmt, more_stmt}
use Rattle.sp_tree.specs.Streams.{is_proper}
use Rattle.sp_tree.specs.Structure.{slice_lanes, is_inner}
use Rattle.sp_tree.specs.Tallies.{Tally, primitive}
use Rattle.sp_tree.specs.Typing.{Scope, IsLoopStyle, BodyTyped, StmtTyped, after, with_counters, with_val}
use Rattle.sp_core.specs.Declarations.{is_stream}
use Rattle.sp_core.specs.PlainCore.{PlainCounter, PlainOp, PlainNode, PlainStages, no_stage, more_stage}
use Rattle.sp_sugar.specs.Core.{core_of}
use Rattle.sp_sugar.specs.Early.{bounds_of, is_early, registers_for, counters_of, stage_of, early_stages}
use Rattle.sp_sugar.specs.Numbers.{mem_number, written_mems}
use Rattle.sp_sugar.specs.Operations.{write_op}
use Rattle.sp_sugar.specs.Registers.{ending_of, beside, inside, registers_in}
use Rattle.sp_sugar.specs.Runs.{Run, no_run, next_code, with_stmt}
use Rattle.sp_sugar.specs.Stages.{run_stage, first_of, Combines, nothing, folds, reduces, reduces_elements, combines, inner_node, last_stages, load_node, store_node, style_of, outer_node, body_node, stages, node}
use Rattle.sp_sugar.specs.Uses.{Ending, no_more, in_last_run, in_combination}
use Rattle.sp_sugar.specs.Values.{Sources, no_sources, with_state}
use Rattle.sp_lane_cores.proofs.LanedEarlier.{run_good, early_good}
use Rattle.sp_overlap.specs.Whole.{IsTimed, AreTimed}
use Rattle.sp_lane_programs.specs.Timed.{IsInTurn, StmtTimed, BodyTimed}

-- a loop is no stream block, nor is a block that isn't a proper one
loop_still : (style : Style) → IsLoopStyle style → is_stream style ≡ false
loop_still Pipe h = refl
loop_still Sequential h = refl
loop_still Parallel h = absurd h
loop_still Stream h = absurd h

good : (ops : List PlainOp) (rest : PlainStages) → AreTimed rest → AreTimed (stage_of ops rest)
good ops rest h = (tt, h)

run_timed : (ops : List PlainOp) (rest : PlainStages) → AreTimed rest → AreTimed (run_stage ops rest)
run_timed ops rest h = run_good AreTimed good ops rest h

choose : (o : Option Tally) (xs : Tally → PlainStages) (ys : PlainStages) → ((t : Tally) → AreTimed (xs t)) → AreTimed ys → AreTimed (elim o as (λ _. PlainStages) [ Some t ↦ xs t | None ↦ ys ])
choose (Some t) xs ys f g = f t
choose None xs ys f g = g

-- a choice whose test holds
chosen : (b : Bool) (x y : PlainNode) → b ≡ true → IsTimed x → IsTimed (if b then x else y)
chosen true x y e h = h
chosen false x y e h = absurd (true≢false (sym e))

module _ (p : PlainProgram) (counters : ℕ) where
  block_still : (style : Style) (body : PlainStmts) → IsInTurn style (is_proper p.mems body) → is_stream (style_of p.mems counters style body) ≡ false
  block_still Stream body h = by (is_proper p.mems body) h
    where
      by : (b : Bool) → b ≡ false → is_stream (if b then Stream else Sequential) ≡ false
      by true e = e
      by false e = refl
  block_still Pipe body h = refl
  block_still Sequential body h = refl
  block_still Parallel body h = refl

  last_timed : (run : Run) (n : ℕ) (ending : Ending) (c : Combines) → AreTimed (last_stages p.mems counters run n ending c)
  last_timed run n no_more (reduces_elements part acc begun comb) = run_timed run.ops _ (tt, tt)
  last_timed run n (in_last_run e) (reduces_elements part acc begun comb) = run_timed run.ops _ (tt, tt)
  last_timed run n (in_combination e) (reduces_elements part acc begun comb) = run_timed run.ops _ (tt, tt)
  last_timed run n no_more nothing = run_timed run.ops no_stage tt
  last_timed run n no_more (folds acc comb e) = run_timed run.ops no_stage tt
  last_timed run n no_more (reduces acc begun comb e) = run_timed run.ops no_stage tt
  last_timed run n (in_last_run e) nothing = run_timed (run.ops ++ (next_code p.mems run e).ops ++ write_op (type_of e) n ((next_code p.mems run e).word ∷ []) ∷ []) _ (tt, tt)
  last_timed run n (in_last_run e) (folds acc comb x) = run_timed (run.ops ++ (next_code p.mems run e).ops ++ write_op (type_of e) n ((next_code p.mems run e).word ∷ []) ∷ []) _ (tt, tt)
  last_timed run n (in_last_run e) (reduces acc begun comb x) = run_timed (run.ops ++ (next_code p.mems run e).ops ++ write_op (type_of e) n ((next_code p.mems run e).word ∷ []) ∷ []) _ (tt, tt)
  last_timed run n (in_combination e) nothing = run_timed run.ops _ (tt, tt)
  last_timed run n (in_combination e) (folds acc comb x) = run_timed run.ops _ (tt, tt)
  last_timed run n (in_combination e) (reduces acc begun comb x) = run_timed run.ops _ (tt, tt)

  inner_timed : (sources : Sources) (loops : List PlainCounter) (body : PlainStmts) (c : Combines) → IsTimed (inner_node p.mems counters sources loops body c)
  inner_timed sources loops body nothing = tt
  inner_timed sources loops body (folds acc comb e) = tt
  inner_timed sources loops body (reduces acc begun comb e) = tt
  inner_timed sources loops body (reduces_elements part acc begun comb) = tt

  body_timed : (sources : Sources) (n : ℕ) (loops : List PlainCounter) (style : Style) (body : PlainStmts) (ending : Ending) (c : Combines) (all : PlainStages) → is_stream style ≡ false → AreTimed all
      → IsTimed (body_node p.mems counters sources n loops style body ending c all)
  body_timed sources n loops style body ending c all h k = by (is_inner body)
    where
      by : (b : Bool) → IsTimed (if b then inner_node p.mems counters sources loops body c else outer_node p.mems counters n loops style body ending all)
      by true = inner_timed sources loops body c
      by false = (h, k)

  load_timed : (sources : Sources) (n m r : ℕ) (spans : List PlainSpan) → slice_lanes spans ≡ 1 → IsTimed (load_node p.mems counters sources n m r spans)
  load_timed sources n m r spans h = chosen (slice_lanes spans == 1) _ _ (eq-eqb (slice_lanes spans) 1 h) tt

  store_timed : (sources : Sources) (n r m : ℕ) (spans : List PlainSpan) → slice_lanes spans ≡ 1 → IsTimed (store_node p.mems counters sources n r m spans)
  store_timed sources n r m spans h = chosen (slice_lanes spans == 1) _ _ (eq-eqb (slice_lanes spans) 1 h) tt

  mutual
    unfolding stages node

    stages_timed : (scope : Scope) (run : Run) (n : ℕ) (body : PlainStmts) (ending : Ending) (c : Combines) → BodyTyped p scope body → BodyTimed p.mems body → AreTimed (stages p.mems counters run n body ending c)
    stages_timed scope run n no_stmt ending c typed h = last_timed run n ending c
    stages_timed scope run n (more_stmt (stmt place k) rest) ending c typed h = choose (primitive k)
        (λ t. stages p.mems counters (with_stmt p.mems false (first_of n (beside k rest ending)) run k) (n + length (beside k rest ending)) rest ending c)
        (run_stage run.ops (early_stages p.mems run.values.elsewhere n k (more_stage 0 0 false (node p.mems counters run.values.elsewhere n (n + length (beside k rest ending)) k)
        (stages p.mems counters (no_run run.values.elsewhere) (n + length (beside k rest ending) + length (inside k)) rest ending c))))
        (λ t. stages_timed (after scope k) (with_stmt p.mems false (first_of n (beside k rest ending)) run k) (n + length (beside k rest ending)) rest ending c typed.1 h.1)
        (run_timed run.ops _ (early_good AreTimed good p.mems run.values.elsewhere n k _ (
          stmt_timed scope run.values.elsewhere n (n + length (beside k rest ending)) k typed.0 h.0,
          stages_timed (after scope k) (no_run run.values.elsewhere) (n + length (beside k rest ending) + length (inside k)) rest ending c typed.1 h.1,
        )))

    stmt_timed : (scope : Scope) (sources : Sources) (b n : ℕ) (k : PlainStmtKind) → StmtTyped p scope k → StmtTimed p.mems k → IsTimed (node p.mems counters sources b n k)
    stmt_timed scope sources b n (load_sram sram dram spans) typed h = load_timed sources b sram dram spans h
    stmt_timed scope sources b n (load_line line dram spans) typed h = load_timed sources b line dram spans typed.3
    stmt_timed scope sources b n (store dram spans sram) typed h = store_timed sources b dram sram spans h
    stmt_timed scope sources b n (gather sram dram places e) typed h = absurd h
    stmt_timed scope sources b n (scatter dram places e sram) typed h = absurd h
    stmt_timed scope sources b n (block style body) typed h =
        body_timed sources n [] (style_of p.mems counters style body) body no_more nothing _ (block_still style body h.0) (stages_timed scope (no_run sources) n body no_more nothing typed h.1)
    stmt_timed scope sources b n (foreach style loops body) typed h =
        body_timed sources n (counters_of p.mems sources b loops) style body no_more nothing _ (loop_still style typed.0) (stages_timed (with_counters scope loops) (no_run sources) n body no_more nothing typed.2 h)
    stmt_timed scope sources b n (reduce style fold acc loops body e comb) typed h =
        let c : Combines = combines p.mems fold acc (b + length (registers_for is_early (bounds_of loops))) comb e in
        body_timed sources n (counters_of p.mems sources b loops) style body (ending_of loops e) c _ (loop_still style typed.0)
        (stages_timed (with_counters scope loops) (no_run sources) n body (ending_of loops e) c typed.2 h)
    stmt_timed scope sources b n (mem_reduce style acc loops body part comb) typed h =
        let c : Combines = reduces_elements part (mem_number p.mems acc) (b + length (registers_for is_early (bounds_of loops))) comb in
        (loop_still style typed.0, stages_timed (with_counters scope loops) (no_run sources) n body no_more c typed.2 h)
    stmt_timed scope sources b n (fsm start tested test state body last next) typed h =
        let kept : Sources = with_state sources tested state last n in
        body_timed kept (suc n) [] Pipe body no_more nothing _ refl (stages_timed (with_val scope state (type_of start)) (no_run kept) (suc n) body no_more nothing typed.4 h)
    stmt_timed scope sources b n (branch test first second) typed h =
        let m : ℕ = n + length (registers_in first no_more) in (
          body_timed sources n [] Pipe first no_more nothing _ refl (stages_timed scope (no_run sources) n first no_more nothing typed.1 h.0),
          body_timed sources m [] Pipe second no_more nothing _ refl (stages_timed scope (no_run sources) m second no_more nothing typed.2 h.1),
        )
    stmt_timed scope sources b n (declare m) typed h = tt
    stmt_timed scope sources b n (name v x) typed h = tt
    stmt_timed scope sources b n (set_reg m x) typed h = tt
    stmt_timed scope sources b n (set_out m x) typed h = tt
    stmt_timed scope sources b n (set_sram m xs x) typed h = tt
    stmt_timed scope sources b n (enq m x) typed h = tt

pub program_timed : (p : PlainProgram) → IsProgram p → BodyTimed p.mems p.body → IsTimed (core_of p).root
unfolding core_of
program_timed p h timed =
    let n : ℕ = length (written_mems p.mems) in
    body_timed p (length p.counters) no_sources n [] Pipe p.body no_more nothing _ refl (stages_timed p (length p.counters) (outer_scope p) (no_run no_sources) n p.body no_more nothing h.typed timed)
