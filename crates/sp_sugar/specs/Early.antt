-- Bounds, slices and counts that read an SRAM or a line buffer. Each such bound is computed in a stage of its own before
-- its controller, and each such slice or count in one before its transfer; their words cross in registers.
use Rattle.std.specs.Prelude.{ℕ, suc, ◌+◌, ◌==◌, Bool, false, ◌&&◌, not, List, [], ◌∷◌, ◌++◌, length, flat_map, None, if◌then◌else◌}
use Rattle.sp_words.specs.Types.{int_type}
use Rattle.sp_tree.specs.PlainExpression.{PlainExpr}
use Rattle.sp_tree.specs.PlainProgram as program
use Rattle.sp_tree.specs.PlainStatement.{PlainSpan, single, range, PlainCounter, PlainStmtKind, load_sram, load_line, store, gather, scatter, foreach, reduce, mem_reduce}
use Rattle.sp_tree.specs.Tallies.{tally, slice_tally}
use Rattle.sp_core.specs.PlainCore as core
use Rattle.sp_core.specs.PlainCore.{PlainOp, PlainStages, inner, more_stage}
use Rattle.sp_sugar.specs.Numbers.{crossing_register}
use Rattle.sp_sugar.specs.Operations.{Code, read_op, write_op, code, word_list}
use Rattle.sp_sugar.specs.Values.{Sources}

-- the bounds of counters, and the indices and bounds of a slice, in order
abbrev pub bounds_of : List PlainCounter → List PlainExpr
bounds_of counters = flat_map (λ (c : PlainCounter). c.from ∷ c.until ∷ []) counters

abbrev pub span_parts : PlainSpan → List PlainExpr
span_parts (single e) = e ∷ []
span_parts (range a b par) = a ∷ b ∷ []

abbrev pub parts_of : List PlainSpan → List PlainExpr
parts_of spans = flat_map span_parts spans

-- whether a bound or a count is computed early; and of a slice of which some part reads an SRAM or a line buffer, each
-- part that has an operation, while the others stay in the transfer
abbrev pub is_early : PlainExpr → Bool
is_early e = (tally e).arrays

abbrev pub is_early_slice : List PlainSpan → Bool
is_early_slice spans = (slice_tally spans).arrays

abbrev pub is_early_part : List PlainSpan → PlainExpr → Bool
is_early_part spans e = is_early_slice spans && not ((tally e).operations == 0)

-- one register for each word that crosses
abbrev pub registers_for : (PlainExpr → Bool) → List PlainExpr → List core.PlainMem
registers_for crosses es = flat_map (λ e. if crosses e then crossing_register int_type ∷ [] else []) es

-- the first number after that of the register of a word, if it crosses
abbrev pub after : (PlainExpr → Bool) → ℕ → PlainExpr → ℕ
after crosses r e = if crosses e then suc r else r

-- those of a statement
abbrev pub early_registers : PlainStmtKind → List core.PlainMem
early_registers (load_sram sram dram spans) = registers_for (is_early_part spans) (parts_of spans)
early_registers (load_line line dram spans) = registers_for (is_early_part spans) (parts_of spans)
early_registers (store dram spans sram) = registers_for (is_early_part spans) (parts_of spans)
early_registers (gather sram dram places n) = registers_for is_early (n ∷ [])
early_registers (scatter dram places n sram) = registers_for is_early (n ∷ [])
early_registers (foreach style counters body) = registers_for is_early (bounds_of counters)
early_registers (reduce style fold acc counters body e comb) = registers_for is_early (bounds_of counters)
early_registers (mem_reduce style acc counters body part comb) = registers_for is_early (bounds_of counters)
early_registers _ = []

-- a stage with these operations
abbrev pub stage_of : List PlainOp → PlainStages → PlainStages
stage_of ops rest = more_stage 0 0 false (inner [] [] ops None) rest

-- by the declarations of the program's memories, and where values are found outside of the stage that computes them
module _ (mems : List program.PlainMem) (sources : Sources) where
  -- a word into a register, by operations from a place on
  abbrev pub into_register : (at r : ℕ) → PlainExpr → List PlainOp
  into_register at r e = let x : Code = code mems sources at e in x.ops ++ write_op int_type r (x.word ∷ []) ∷ []

  -- where it is used: by its own operations, or from the register into which an earlier stage puts it
  abbrev pub from_register : (PlainExpr → Bool) → (r : ℕ) → PlainExpr → List PlainOp
  from_register crosses r e = if crosses e then read_op int_type r [] ∷ [] else word_list mems sources e

  -- counters and slices whose words cross in registers from this number on
  abbrev pub counters_of : (r : ℕ) → List PlainCounter → List core.PlainCounter
  counters_of r [] = []
  counters_of r (c ∷ counters) =
      record { number = c.number; from = from_register is_early r c.from; until = from_register is_early (after is_early r c.from) c.until; by = c.step; par = c.par }
      ∷ counters_of (after is_early (after is_early r c.from) c.until) counters

  abbrev pub spans_from : (PlainExpr → Bool) → (r : ℕ) → List PlainSpan → List core.PlainSpan
  spans_from crosses r [] = []
  spans_from crosses r (single e ∷ spans) = core.single (from_register crosses r e) ∷ spans_from crosses (after crosses r e) spans
  spans_from crosses r (range a b par ∷ spans) =
      core.range (from_register crosses r a) (from_register crosses (after crosses r a) b) ∷ spans_from crosses (after crosses (after crosses r a) b) spans

  abbrev pub spans_of : (r : ℕ) → List PlainSpan → List core.PlainSpan
  spans_of r spans = spans_from (is_early_part spans) r spans

  -- the stages before a controller, one for each early bound
  abbrev pub bound_stages : (r : ℕ) → List PlainExpr → PlainStages → PlainStages
  bound_stages r [] rest = rest
  bound_stages r (e ∷ es) rest =
      if is_early e then stage_of (into_register 0 r e) (bound_stages (suc r) es rest) else bound_stages r es rest

  -- the stage before a transfer, of all parts that cross
  abbrev pub part_ops : (PlainExpr → Bool) → (at r : ℕ) → PlainExpr → List PlainOp
  part_ops crosses at r e = if crosses e then into_register at r e else []

  abbrev pub slice_ops : (PlainExpr → Bool) → (at r : ℕ) → List PlainExpr → List PlainOp
  slice_ops crosses at r [] = []
  slice_ops crosses at r (e ∷ es) =
      let first : List PlainOp = part_ops crosses at r e in
      first ++ slice_ops crosses (at + length first) (after crosses r e) es

  abbrev pub slice_stage : (r : ℕ) → List PlainSpan → PlainStages → PlainStages
  slice_stage r spans rest = if is_early_slice spans then stage_of (slice_ops (is_early_part spans) 0 r (parts_of spans)) rest else rest

  -- the early stages of a statement, before it
  abbrev pub early_stages : (r : ℕ) → PlainStmtKind → PlainStages → PlainStages
  early_stages r (load_sram sram dram spans) rest = slice_stage r spans rest
  early_stages r (load_line line dram spans) rest = slice_stage r spans rest
  early_stages r (store dram spans sram) rest = slice_stage r spans rest
  early_stages r (gather sram dram places n) rest = bound_stages r (n ∷ []) rest
  early_stages r (scatter dram places n sram) rest = bound_stages r (n ∷ []) rest
  early_stages r (foreach style counters body) rest = bound_stages r (bounds_of counters) rest
  early_stages r (reduce style fold acc counters body e comb) rest = bound_stages r (bounds_of counters) rest
  early_stages r (mem_reduce style acc counters body part comb) rest = bound_stages r (bounds_of counters) rest
  early_stages r _ rest = rest
