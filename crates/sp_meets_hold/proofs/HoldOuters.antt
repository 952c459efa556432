-- The outers of a core have numbers of their own.
use Rattle.std.proofs.Common.{◌≡◌, ℕ, suc, ◌+◌, List, ◌++◌, subst, arith}
use Rattle.std.specs.List.{Contains}
use Rattle.sp_core.specs.Meeting.{Outer, outers, outers_in}
use Rattle.sp_core.specs.Numbering.{node_count, node_count_in}
use Rattle.sp_core.specs.PlainCore.{PlainNode, PlainStages, inner, outer, fsm, branch, load, store, sparse, no_stage, more_stage}
use Rattle.sp_meets_hold.proofs.HoldRising.{Rising, from_less, both_rise, one_of}

abbrev number_of : Outer → ℕ
number_of o = o.node

up_to : (k n m : ℕ) (os : List Outer) → n ≡ m → Rising number_of k n os → Rising number_of k m os
up_to k n m os e h = subst (λ j. Rising number_of k j os) e h

mutual
  nodes_rise : (k : ℕ) (node : PlainNode) → Rising number_of k (k + node_count node) (outers k node)
  nodes_rise k (outer counters style owned stages) = (omega arith, up_to (suc k) (suc k + node_count_in stages) (k + (1 + node_count_in stages)) (outers_in (suc k) stages) (omega arith) (stages_rise (suc k) stages))
  nodes_rise k (fsm start state test body next) = from_less number_of k (suc k) (k + (1 + node_count body)) (outers (suc k) body) (omega arith) (up_to (suc k) (suc k + node_count body) (k + (1 + node_count body)) (outers (suc k) body) (omega arith) (nodes_rise (suc k) body))
  nodes_rise k (branch test first second) =
      from_less number_of k (suc k) (k + (1 + (node_count first + node_count second))) (outers (suc k) first ++ outers (suc k + node_count first) second) (omega arith)
      (both_rise number_of (suc k) (suc k + node_count first) (k + (1 + (node_count first + node_count second))) (outers (suc k) first) (outers (suc k + node_count first) second) (nodes_rise (suc k) first)
      (up_to (suc k + node_count first) ((suc k + node_count first) + node_count second) (k + (1 + (node_count first + node_count second))) (outers (suc k + node_count first) second) (omega arith) (nodes_rise (suc k + node_count first) second)))
  nodes_rise k (inner counters owned ops comb) = omega arith
  nodes_rise k (load r m spans) = omega arith
  nodes_rise k (store r m spans) = omega arith
  nodes_rise k (sparse kind r m p spans count par) = omega arith

  stages_rise : (k : ℕ) (stages : PlainStages) → Rising number_of k (k + node_count_in stages) (outers_in k stages)
  stages_rise k no_stage = omega arith
  stages_rise k (more_stage first last comb node rest) =
      both_rise number_of k (k + node_count node) (k + (node_count node + node_count_in rest)) (outers k node) (outers_in (k + node_count node) rest) (nodes_rise k node)
      (up_to (k + node_count node) ((k + node_count node) + node_count_in rest) (k + (node_count node + node_count_in rest)) (outers_in (k + node_count node) rest) (omega arith) (stages_rise (k + node_count node) rest))

pub one_outer : (root : PlainNode) (o p : Outer) → Contains (outers 0 root) o → Contains (outers 0 root) p → o.node ≡ p.node → o ≡ p
one_outer root o p a b e = one_of number_of 0 (0 + node_count root) (outers 0 root) (nodes_rise 0 root) o p a b e
