-- The loads and stores of a part of a core, in the order of the tree.
use Rattle.std.specs.Prelude.{ℕ, suc, ◌+◌, List, [], ◌∷◌, ◌++◌, length}
use Rattle.sp_core.specs.Numbering.{node_count, counters_size, spans_size, number_count}
use Rattle.sp_core.specs.PlainCore.{PlainNode, PlainStages, inner, outer, fsm, branch, load, store, sparse, no_stage, more_stage}
use Rattle.sp_tree_handed.specs.declared.moves.Direction.{Direction}
use Rattle.sp_tree_handed.specs.declared.moves.Direction.TheVariants.{Load, Store}
use Rattle.sp_tree_handed.specs.declared.transfers.CoreTransfer.{CoreTransfer}

-- a transfer has a number behind those of the operations of its slice
abbrev pub core_transfer : Direction → (node number dram mem : ℕ) → CoreTransfer
core_transfer way k n r m = record { direction = way; node = k; number = n; dram = r; mem = m }

-- the loads and stores of a part, whose node has the number k, and its first operation n
abbrev mutual
  pub transfers_in : PlainNode → (k n : ℕ) → List CoreTransfer
  transfers_in (inner counters owned ops comb) k n = []
  transfers_in (outer counters style owned stages) k n = transfers_in_stages stages (suc k) (n + counters_size counters)
  transfers_in (fsm start state test body next) k n = transfers_in body (suc k) (n + (length start + length test))
  transfers_in (branch test first second) k n = transfers_in first (suc k) (n + length test) ++ transfers_in second (suc k + node_count first) (n + (length test + number_count first))
  transfers_in (load r m spans) k n = core_transfer Load k (n + spans_size spans) r m ∷ []
  transfers_in (store r m spans) k n = core_transfer Store k (n + spans_size spans) r m ∷ []
  transfers_in (sparse kind r m places spans count par) k n = []

  pub transfers_in_stages : PlainStages → (k n : ℕ) → List CoreTransfer
  transfers_in_stages no_stage k n = []
  transfers_in_stages (more_stage first last comb node rest) k n = transfers_in node k n ++ transfers_in_stages rest (k + node_count node) (n + number_count node)
