-- The nodes of the transfers of a part: their numbers rise along the tree.
use Rattle.std.proofs.Common.{◌≡◌, ℕ, suc, ◌+◌, ◌≤◌, List, [], ◌∷◌, ◌++◌, length, subst, arith}
use Rattle.sp_core.specs.Numbering.{node_count, node_count_in, number_count, counters_size}
use Rattle.sp_core.specs.PlainCore.{PlainNode, PlainStages, inner, outer, fsm, branch, load, store, sparse, no_stage, more_stage}
use Rattle.sp_tree_handed.specs.declared.transfers.CoreTransfer.{CoreTransfer}
use Rattle.sp_tree_handed.specs.Transfers.{transfers_in, transfers_in_stages}

-- numbers of nodes that rise, from one on and below another
abbrev pub NodesRise : (from to : ℕ) → List CoreTransfer → Type 0
NodesRise from to [] = from ≤ to
NodesRise from to (x ∷ transfers) = (from ≤ x.node) × NodesRise (suc x.node) to transfers

lower : (a b to : ℕ) (transfers : List CoreTransfer) → a ≤ b → NodesRise b to transfers → NodesRise a to transfers
lower a b to [] l h = omega (arith, l, h)
lower a b to (x ∷ transfers) l h = ((let k = h.0 in omega (arith, l, k)), h.1)

joined : (a b c : ℕ) (xs ys : List CoreTransfer) → NodesRise a b xs → NodesRise b c ys → NodesRise a c (xs ++ ys)
joined a b c [] ys h k = lower a b c ys h k
joined a b c (x ∷ xs) ys h k = (h.0, joined (suc x.node) b c xs ys h.1 k)

-- the same numbers, told otherwise
until : (a b c : ℕ) (transfers : List CoreTransfer) → b ≡ c → NodesRise a b transfers → NodesRise a c transfers
until a b c transfers e h = subst (λ n. NodesRise a n transfers) e h

mutual
  pub transfers_rise : (node : PlainNode) (k n : ℕ) → NodesRise k (k + node_count node) (transfers_in node k n)
  transfers_rise (inner counters owned ops comb) k n = omega arith
  transfers_rise (outer counters style owned stages) k n =
      lower k (suc k) (k + (1 + node_count_in stages)) (transfers_in_stages stages (suc k) (n + counters_size counters)) (omega arith) (until (suc k) (suc k + node_count_in stages) (k + (1 + node_count_in stages)) _ (omega arith) (stages_rise stages (suc k) (n + counters_size counters)))
  transfers_rise (fsm start state test body next) k n =
      lower k (suc k) (k + (1 + node_count body)) (transfers_in body (suc k) (n + (length start + length test))) (omega arith) (until (suc k) (suc k + node_count body) (k + (1 + node_count body)) _ (omega arith) (transfers_rise body (suc k) (n + (length start + length test))))
  transfers_rise (branch test first second) k n =
      lower k (suc k) (k + (1 + (node_count first + node_count second))) _ (omega arith)
      (joined (suc k) (suc k + node_count first) (k + (1 + (node_count first + node_count second))) _ _ (transfers_rise first (suc k) (n + length test))
      (until (suc k + node_count first) (suc k + node_count first + node_count second) (k + (1 + (node_count first + node_count second))) _ (omega arith) (transfers_rise second (suc k + node_count first) (n + (length test + number_count first)))))
  transfers_rise (load r m spans) k n = (omega arith, omega arith)
  transfers_rise (store r m spans) k n = (omega arith, omega arith)
  transfers_rise (sparse kind r m places spans count par) k n = omega arith

  stages_rise : (stages : PlainStages) (k n : ℕ) → NodesRise k (k + node_count_in stages) (transfers_in_stages stages k n)
  stages_rise no_stage k n = omega arith
  stages_rise (more_stage first last comb node rest) k n =
      joined k (k + node_count node) (k + (node_count node + node_count_in rest)) _ _ (transfers_rise node k n)
      (until (k + node_count node) (k + node_count node + node_count_in rest) (k + (node_count node + node_count_in rest)) _ (omega arith) (stages_rise rest (k + node_count node) (n + number_count node)))
