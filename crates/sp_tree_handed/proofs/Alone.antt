-- The transfers of a part without stores are loads.
use Rattle.std.proofs.Common.{◌≡◌, ℕ, suc, ◌+◌, [], length, All, refl}
use Rattle.std.proofs.lemmas.List.Elements.{All-nil, All-cons, All-append}
use Rattle.sp_core.specs.Numbering.{node_count, number_count, counters_size, spans_size}
use Rattle.sp_core.specs.PlainCore.{PlainNode, PlainStages, inner, outer, fsm, branch, load, store, sparse, no_stage, more_stage}
use Rattle.sp_tree_handed.specs.declared.moves.Direction.TheVariants.{Load}
use Rattle.sp_tree_handed.specs.declared.transfers.CoreTransfer.{CoreTransfer}
use Rattle.sp_tree_handed.specs.Loads.{HasNoStore, HaveNoStore}
use Rattle.sp_tree_handed.specs.Transfers.{core_transfer, transfers_in, transfers_in_stages}

abbrev pub Loads : CoreTransfer → Type 0
Loads transfer = transfer.direction ≡ Load

mutual
  pub all_load : (node : PlainNode) (k n : ℕ) → HasNoStore node → All Loads (transfers_in node k n)
  all_load (inner counters owned ops comb) k n none = All-nil Loads
  all_load (outer counters style owned stages) k n none = stages_load stages (suc k) (n + counters_size counters) none
  all_load (fsm start state test body next) k n none = all_load body (suc k) (n + (length start + length test)) none
  all_load (branch test first second) k n none =
      All-append Loads (transfers_in first (suc k) (n + length test)) (transfers_in second (suc k + node_count first) (n + (length test + number_count first))) (all_load first (suc k) (n + length test) none.0)
      (all_load second (suc k + node_count first) (n + (length test + number_count first)) none.1)
  all_load (load r m spans) k n none = All-cons Loads (core_transfer Load k (n + spans_size spans) r m) [] refl (All-nil Loads)
  all_load (store r m spans) k n none = absurd none
  all_load (sparse kind r m places spans count par) k n none = absurd none

  stages_load : (stages : PlainStages) (k n : ℕ) → HaveNoStore stages → All Loads (transfers_in_stages stages k n)
  stages_load no_stage k n none = All-nil Loads
  stages_load (more_stage first last comb node rest) k n none =
      All-append Loads (transfers_in node k n) (transfers_in_stages rest (k + node_count node) (n + number_count node)) (all_load node k n none.0) (stages_load rest (k + node_count node) (n + number_count node) none.1)
