-- How many nodes and operations stand in a part of a core, by which they are numbered in preorder. In a node its counters
-- come first, each with the operations of its two bounds; an FSM has its start, its test, its body and its next; a
-- transfer stands after the operations of its spans and of its count, and takes one number.
use Rattle.std.specs.Prelude.{ℕ, ◌+◌, List, [], ◌∷◌, length}
use Rattle.sp_core.specs.PlainCore.{PlainCounter, PlainSpan, single, range, PlainNode, PlainStages, inner, outer, fsm, branch, load, store, sparse, no_stage, more_stage, PlainCore}

abbrev mutual
  pub node_count : PlainNode → ℕ
  node_count (outer counters style owned stages) = 1 + node_count_in stages
  node_count (fsm start state test body next) = 1 + node_count body
  node_count (branch test first second) = 1 + (node_count first + node_count second)
  node_count _ = 1

  pub node_count_in : PlainStages → ℕ
  node_count_in no_stage = 0
  node_count_in (more_stage first last comb node rest) = node_count node + node_count_in rest

abbrev pub counters_size : List PlainCounter → ℕ
counters_size [] = 0
counters_size (c ∷ counters) = (length c.from + length c.until) + counters_size counters

abbrev pub spans_size : List PlainSpan → ℕ
spans_size [] = 0
spans_size (single ops ∷ spans) = length ops + spans_size spans
spans_size (range a b ∷ spans) = (length a + length b) + spans_size spans

-- the numbers that a node takes: one for each operation and each transfer
abbrev mutual
  pub number_count : PlainNode → ℕ
  number_count (inner counters owned ops comb) = counters_size counters + length ops
  number_count (outer counters style owned stages) = counters_size counters + number_count_in stages
  number_count (fsm start state test body next) = (length start + length test) + (number_count body + length next)
  number_count (branch test first second) = length test + (number_count first + number_count second)
  number_count (load r m spans) = spans_size spans + 1
  number_count (store r m spans) = spans_size spans + 1
  number_count (sparse kind r m index spans count par) = spans_size spans + (length count + 1)

  pub number_count_in : PlainStages → ℕ
  number_count_in no_stage = 0
  number_count_in (more_stage first last comb node rest) = number_count node + number_count_in rest

-- nodes, operations, memories and DRAMs together; a transfer is a node, and no operation
abbrev mutual
  pub operation_count : PlainNode → ℕ
  operation_count (inner counters owned ops comb) = counters_size counters + length ops
  operation_count (outer counters style owned stages) = counters_size counters + operation_count_in stages
  operation_count (fsm start state test body next) = (length start + length test) + (operation_count body + length next)
  operation_count (branch test first second) = length test + (operation_count first + operation_count second)
  operation_count (load r m spans) = spans_size spans
  operation_count (store r m spans) = spans_size spans
  operation_count (sparse kind r m index spans count par) = spans_size spans + length count

  pub operation_count_in : PlainStages → ℕ
  operation_count_in no_stage = 0
  operation_count_in (more_stage first last comb node rest) = operation_count node + operation_count_in rest

abbrev pub core_size : PlainCore → ℕ
core_size core = (node_count core.root + operation_count core.root) + (length core.mems + length core.ports.drams)
