-- A core has few numbers: each transfer is a node, and all else that has one is an operation.
use Rattle.std.proofs.Common.{◌+◌, ◌<◌, ◌≤◌, ◌^◌, length, ltb-true, arith}
use Rattle.sp_core.specs.Invariant.{IsCore}
use Rattle.sp_core.specs.Numbering.{node_count, node_count_in, number_count, number_count_in, operation_count, operation_count_in, core_size}
use Rattle.sp_core.specs.PlainCore.{PlainNode, PlainStages, inner, outer, fsm, branch, load, store, sparse, no_stage, more_stage, PlainCore}

mutual
  numbers_of : (node : PlainNode) → number_count node ≤ node_count node + operation_count node
  numbers_of (inner counters owned ops comb) = omega arith
  numbers_of (outer counters style owned stages) = let k = numbers_in stages in omega arith
  numbers_of (fsm start state test body next) = let k = numbers_of body in omega arith
  numbers_of (branch test first second) = let k = numbers_of first in let l = numbers_of second in omega arith
  numbers_of (load r m spans) = omega arith
  numbers_of (store r m spans) = omega arith
  numbers_of (sparse kind r m places spans count par) = omega arith

  numbers_in : (stages : PlainStages) → number_count_in stages ≤ node_count_in stages + operation_count_in stages
  numbers_in no_stage = omega arith
  numbers_in (more_stage first last comb node rest) = let k = numbers_of node in let l = numbers_in rest in omega arith

pub few_numbers : (core : PlainCore) → IsCore core → number_count core.root ≤ 2 ^ 29
few_numbers core h =
    let size : core_size core < 2 ^ 29 = ltb-true (core_size core) (2 ^ 29) h.size in
    let numbers = numbers_of core.root in
    omega arith

pub few_mems : (core : PlainCore) → IsCore core → length core.mems ≤ 2 ^ 29
few_mems core h =
    let size : core_size core < 2 ^ 29 = ltb-true (core_size core) (2 ^ 29) h.size in
    omega arith
