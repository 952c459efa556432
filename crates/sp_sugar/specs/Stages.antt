-- The tree of a core. A body that holds no controller and no transfer is an inner one; in any other each controller and
-- each transfer is a stage, with a stage before it for each of its early bounds or for its early slice, and so is each run
-- of other statements that has an operation.
use Rattle.std.specs.Prelude.{ℕ, suc, ◌+◌, ◌==◌, Bool, true, false, List, [], ◌∷◌, ◌++◌, map, length, Option, Some, None, if◌then◌else◌}
use Rattle.sp_words.specs.declared.kind.Style.{Style}
use Rattle.sp_words.specs.declared.kind.Style.TheVariants.{Pipe, Sequential, Stream}
use Rattle.sp_tree.specs.declared.statement.Comb.{Comb}
use Rattle.sp_tree.specs.Expressions.{mem, dims}
use Rattle.sp_tree.specs.PlainExpression.{PlainExpr, type_of}
use Rattle.sp_tree.specs.PlainProgram.{PlainMem}
use Rattle.sp_tree.specs.PlainStatement.{PlainSpan, PlainStmtKind, PlainStmts, stmt, load_sram, load_line, store, gather, scatter, block, foreach, reduce, mem_reduce, fsm, branch, no_stmt, more_stmt}
use Rattle.sp_tree.specs.Streams.{is_proper}
use Rattle.sp_tree.specs.Structure.{own_mems, slice_lanes, is_inner}
use Rattle.sp_tree.specs.Tallies.{primitive}
use Rattle.sp_core.specs.declared.node.SparseKind.TheVariants.{Gather, Scatter, WideLoad, WideStore}
use Rattle.sp_core.specs.PlainCore as core
use Rattle.sp_core.specs.PlainCore.{PlainOp, PlainCounter, PlainNode, PlainStages, inner, outer, sparse, no_stage, more_stage}
use Rattle.sp_sugar.specs.Combination.{fold_ops, reduce_ops, element_loop}
use Rattle.sp_sugar.specs.Early.{bounds_of, is_early, registers_for, from_register, counters_of, spans_of, early_stages, stage_of}
use Rattle.sp_sugar.specs.Numbers.{mem_number, dram_number}
use Rattle.sp_sugar.specs.Operations.{Code, read_op, write_op, alone, code, word_list}
use Rattle.sp_sugar.specs.Registers.{ending_of, beside, inside, registers_in, owned_registers}
use Rattle.sp_sugar.specs.Runs.{Run, no_run, next_code, with_stmt, inner_run}
use Rattle.sp_sugar.specs.Uses.{Ending, no_more, in_last_run, in_combination}
use Rattle.sp_sugar.specs.Values.{Sources, with_state}

-- a run is a stage where it has an operation
abbrev pub run_stage : List PlainOp → PlainStages → PlainStages
run_stage [] rest = rest
run_stage (op ∷ ops) rest = stage_of (op ∷ ops) rest

-- the first of these numbers, if there is one
abbrev pub first_of : ℕ → List core.PlainMem → Option ℕ
first_of n [] = None
first_of n (m ∷ ms) = Some n

-- what a loop does with the words of its iterations, beside its body: nothing; or it combines a word into the register of
-- this number, by the register that tells whether it has begun; or the elements of a memory of the program
pub data Combines : Type 0 where
  nothing : Combines
  folds : (acc : ℕ) → Comb → PlainExpr → Combines
  reduces : (acc begun : ℕ) → Comb → PlainExpr → Combines
  reduces_elements : (part acc begun : ℕ) → Comb → Combines

-- by the program's accumulator, and the register beside it
abbrev pub combines : List PlainMem → (fold : Bool) → (acc begun : ℕ) → Comb → PlainExpr → Combines
combines mems true acc begun comb e = folds (mem_number mems acc) comb e
combines mems false acc begun comb e = reduces (mem_number mems acc) begun comb e

-- by the declarations of the program's memories and the number of its counters
module _ (mems : List PlainMem) (counters : ℕ) where
  -- the operations of a combination, of the word at a place
  abbrev pub combining : (at word : ℕ) → Combines → List PlainOp
  combining at word (folds acc comb e) = fold_ops at word acc (type_of e) comb
  combining at word (reduces acc begun comb e) = reduce_ops at word acc begun (type_of e) comb
  combining at word _ = []

  -- after the word's own operations; and as a stage
  abbrev pub combination : List PlainOp → Code → Combines → List PlainCounter → (owned : List ℕ) → PlainNode
  combination before x c loops owned =
      inner loops owned (before ++ x.ops ++ combining (length before + length x.ops) x.word c) (Some (length before + length x.ops))

  abbrev pub combination_stage : Code → Combines → PlainStages
  combination_stage x c = more_stage 0 0 true (combination [] x c [] []) no_stage

  -- an inner body
  abbrev pub inner_node : Sources → List PlainCounter → PlainStmts → Combines → PlainNode
  inner_node sources loops body nothing =
      inner loops (map (mem_number mems) (own_mems body)) (inner_run mems (no_run sources) body).ops None
  inner_node sources loops body (folds acc comb e) =
      let run : Run = inner_run mems (no_run sources) body in
      combination run.ops (next_code mems run e) (folds acc comb e) loops (map (mem_number mems) (own_mems body))
  inner_node sources loops body (reduces acc begun comb e) =
      let run : Run = inner_run mems (no_run sources) body in
      combination run.ops (next_code mems run e) (reduces acc begun comb e) loops (map (mem_number mems) (own_mems body))
  inner_node sources loops body (reduces_elements part acc begun comb) =
      inner loops (map (mem_number mems) (own_mems body)) (inner_run mems (no_run sources) body).ops None

  -- the last stages of a body: its last run, which may compute the word that is combined, and the combination
  abbrev pub last_stages : Run → (n : ℕ) → Ending → Combines → PlainStages
  last_stages run n ending (reduces_elements part acc begun comb) =
      run_stage run.ops (more_stage 0 0 true (element_loop mems counters (dims mems part) part acc begun (mem mems part).ty comb) no_stage)
  last_stages run n no_more c = run_stage run.ops no_stage
  last_stages run n (in_combination e) c = run_stage run.ops (combination_stage (code mems run.values.elsewhere 0 e) c)
  last_stages run n (in_last_run e) c =
      let x : Code = next_code mems run e in
      run_stage (run.ops ++ x.ops ++ write_op (type_of e) n (x.word ∷ []) ∷ []) (combination_stage (alone 0 (read_op (type_of e) n [])) c)

  -- a transfer of a slice, of one lane or several
  abbrev pub load_node : Sources → (n : ℕ) → (mem dram : ℕ) → List PlainSpan → PlainNode
  load_node sources n m r spans =
      if slice_lanes spans == 1
      then core.load (dram_number mems r) (mem_number mems m) (spans_of mems sources n spans)
      else sparse WideLoad (dram_number mems r) (mem_number mems m) None (spans_of mems sources n spans) [] (slice_lanes spans)

  abbrev pub store_node : Sources → (n : ℕ) → (dram mem : ℕ) → List PlainSpan → PlainNode
  store_node sources n r m spans =
      if slice_lanes spans == 1
      then core.store (dram_number mems r) (mem_number mems m) (spans_of mems sources n spans)
      else sparse WideStore (dram_number mems r) (mem_number mems m) None (spans_of mems sources n spans) [] (slice_lanes spans)

  -- the style of a block: one that isn't a proper `Stream` block is a sequence
  abbrev pub style_of : Style → PlainStmts → Style
  style_of Stream body = if is_proper mems body then Stream else Sequential
  style_of style body = style

  -- a body by its stages, in a loop or alone; n is the first number that its registers take
  abbrev pub outer_node : (n : ℕ) → List PlainCounter → Style → PlainStmts → Ending → PlainStages → PlainNode
  outer_node n loops style body ending all = outer loops style (map (mem_number mems) (own_mems body) ++ owned_registers n body ending) all

  abbrev pub body_node : Sources → (n : ℕ) → List PlainCounter → Style → PlainStmts → Ending → Combines → PlainStages → PlainNode
  body_node sources n loops style body ending c all =
      if is_inner body then inner_node sources loops body c else outer_node n loops style body ending all

  -- by where values are found outside of the stages that compute them
  unfoldable mutual
    -- the stages of a body, after a run
    pub stages : Run → (n : ℕ) → PlainStmts → Ending → Combines → PlainStages
    stages run n no_stmt ending c = last_stages run n ending c
    stages run n (more_stmt (stmt place kind) rest) ending c = elim (primitive kind) [
      | Some t ↦ stages (with_stmt mems false (first_of n (beside kind rest ending)) run kind) (n + length (beside kind rest ending)) rest ending c
      | None ↦ run_stage run.ops (early_stages mems run.values.elsewhere n kind (more_stage 0 0 false
          (node run.values.elsewhere n (n + length (beside kind rest ending)) kind)
          (stages (no_run run.values.elsewhere) (n + length (beside kind rest ending) + length (inside kind)) rest ending c)))
    ]

    -- a controller or a transfer, by the first register beside it and the first one inside of it
    pub node : Sources → (b n : ℕ) → PlainStmtKind → PlainNode
    node sources b n (load_sram sram dram spans) = load_node sources b sram dram spans
    node sources b n (load_line line dram spans) = load_node sources b line dram spans
    node sources b n (store dram spans sram) = store_node sources b dram sram spans
    node sources b n (gather sram dram places e) =
        sparse Gather (dram_number mems dram) (mem_number mems sram) (Some (mem_number mems places)) [] (from_register mems sources is_early b e) 1
    node sources b n (scatter dram places e sram) =
        sparse Scatter (dram_number mems dram) (mem_number mems sram) (Some (mem_number mems places)) [] (from_register mems sources is_early b e) 1
    node sources b n (block style body) = body_node sources n [] (style_of style body) body no_more nothing (stages (no_run sources) n body no_more nothing)
    node sources b n (foreach style loops body) = body_node sources n (counters_of mems sources b loops) style body no_more nothing (stages (no_run sources) n body no_more nothing)
    node sources b n (reduce style fold acc loops body e comb) =
        let c : Combines = combines mems fold acc (b + length (registers_for is_early (bounds_of loops))) comb e in
        body_node sources n (counters_of mems sources b loops) style body (ending_of loops e) c (stages (no_run sources) n body (ending_of loops e) c)
    node sources b n (mem_reduce style acc loops body part comb) =
        let c : Combines = reduces_elements part (mem_number mems acc) (b + length (registers_for is_early (bounds_of loops))) comb in
        outer_node n (counters_of mems sources b loops) style body no_more (stages (no_run sources) n body no_more c)
    node sources b n (fsm start tested test state body last next) =
        let kept : Sources = with_state sources tested state last n in
        core.fsm (word_list mems sources start) n (word_list mems kept test) (body_node kept (suc n) [] Pipe body no_more nothing (stages (no_run kept) (suc n) body no_more nothing)) (word_list mems kept next)
    node sources b n (branch test first second) =
        let m : ℕ = n + length (registers_in first no_more) in
        core.branch (word_list mems sources test) (body_node sources n [] Pipe first no_more nothing (stages (no_run sources) n first no_more nothing))
        (body_node sources m [] Pipe second no_more nothing (stages (no_run sources) m second no_more nothing))
    node sources b n kind = inner [] [] [] None
