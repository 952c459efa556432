-- What is known of a whole walk.
use Rattle.std.proofs.Common.{◌≡◌, ℕ, suc, ◌+◌, List, [], ◌∷◌, ◌++◌, length, map, All, Option, drop, slice_index_or, sym, ap, subst, ◌∙◌, arith}
use Rattle.std.specs.List.{AllZip}
use Rattle.std.proofs.lemmas.List.Elements.{All-head, All-map, All-tail}
use Rattle.sp_netlist.specs.Draft.{Draft}
use Rattle.sp_dram_words.specs.Units.{units_in}
use Rattle.sp_core.specs.Numbering.{node_count, number_count, counters_size}
use Rattle.sp_core.specs.PlainCore.{PlainNode, PlainStages, inner, outer, fsm, branch, load, store, sparse, no_stage, more_stage, PlainCore}
use Rattle.sp_tree_handed.specs.declared.transfers.CoreTransfer.{CoreTransfer}
use Rattle.sp_overlap.specs.Whole.{IsTimed, AreTimed}
use Rattle.sp_tree_handed.specs.Transfers.{transfers_in, transfers_in_stages}
use Rattle.sp_tree_handed.specs.Moves.{HasEnd, HaveEnds, StagesHaveEnds}
use Rattle.sp_load_units.specs.declared.unit.TransferUnit.{TransferUnit}
use Rattle.sp_load_units.specs.declared.walk.Walk.{Walk}
use Rattle.sp_load_units.specs.Units.{UnitStands, UnitsStand, HaveDone, stores_to}
use Rattle.sp_load_units.specs.Walks.{UnitStandsAlone, Walked}
use Rattle.sp_load_units.proofs.Joining.{all_front, all_back}

module _ (d : Draft) (core : PlainCore) where
  -- units of these transfers stand, one for each
  pub zipped : (transfers : List CoreTransfer) (units : List TransferUnit) → map (λ (unit : TransferUnit). unit.transfer) units ≡ transfers → All (UnitStandsAlone d core) units → AllZip (UnitStands d core) transfers units
  zipped [] [] e h = tt
  zipped [] (unit ∷ units) e h = (let n = ap (λ ls. length ls) e in absurd (omega (arith, n)))
  zipped (one ∷ transfers) [] e h = (let n = ap (λ ls. length ls) e in absurd (omega (arith, n)))
  zipped (one ∷ transfers) (unit ∷ units) e h = (
    subst (λ l. UnitStands d core l unit) (ap (λ ls. slice_index_or ls 0 one) e) (All-head (UnitStandsAlone d core) unit units h),
    zipped transfers units (ap (drop 1) e) (All-tail (UnitStandsAlone d core) unit units h),
  )

  module _ (ends : List (Option ℕ)) where
    -- the node of each transfer has an end
    abbrev EndsAt : CoreTransfer → Type 0
    EndsAt one = HasEnd d ends one.node

    pub transfers_end : (transfers : List CoreTransfer) (units : List TransferUnit) → map (λ (unit : TransferUnit). unit.transfer) units ≡ transfers → All (UnitStandsAlone d core) units → HaveDone ends units → All EndsAt transfers
    transfers_end transfers units e h done = subst (All EndsAt) e (All-map EndsAt (λ (unit : TransferUnit). unit.transfer) units (λ k x l. record { net = _; there = done k x l; has = (h k x l).done }))

    -- so has each transfer of a part, which has no sparse ones
    mutual
      pub have_ends : (node : PlainNode) (k n : ℕ) → IsTimed node → All EndsAt (transfers_in node k n) → HaveEnds d ends node k
      have_ends (inner counters owned ops comb) k n none h = tt
      have_ends (outer counters style owned stages) k n none h = stages_have_ends stages (suc k) (n + counters_size counters) none.1 h
      have_ends (fsm start state test body next) k n none h = have_ends body (suc k) (n + (length start + length test)) none h
      have_ends (branch test first second) k n none h =
          let one = transfers_in first (suc k) (n + length test) in
          let other = transfers_in second (suc k + node_count first) (n + (length test + number_count first)) in
          (have_ends first (suc k) (n + length test) none.0 (all_front EndsAt one other h), have_ends second (suc k + node_count first) (n + (length test + number_count first)) none.1 (all_back EndsAt one other h))
      have_ends (load r m spans) k n none h = All-head EndsAt _ [] h
      have_ends (store r m spans) k n none h = All-head EndsAt _ [] h
      have_ends (sparse kind r m places spans count par) k n none h = absurd none

      stages_have_ends : (stages : PlainStages) (k n : ℕ) → AreTimed stages → All EndsAt (transfers_in_stages stages k n) → StagesHaveEnds d ends stages k
      stages_have_ends no_stage k n none h = tt
      stages_have_ends (more_stage first last comb node rest) k n none h =
          let one = transfers_in node k n in
          let other = transfers_in_stages rest (k + node_count node) (n + number_count node) in
          (have_ends node k n none.0 (all_front EndsAt one other h), stages_have_ends rest (k + node_count node) (n + number_count node) none.1 (all_back EndsAt one other h))

-- a walk over a core's whole tree, which had found none before
module _ (core : PlainCore) (node : PlainNode) (old new : Draft) (before after : Walk) (root : node ≡ core.root) (no_units : before.units.items ≡ []) (no_ends : before.ends.items ≡ []) (none : before.number ≡ 0) (w : Walked core node old before new after) where
  all_units : after.units.items ≡ w.adds.units
  all_units = w.adds.units_are ∙ ap (λ us. us ++ w.adds.units) no_units

  all_transfers : map (λ (unit : TransferUnit). unit.transfer) w.adds.units ≡ transfers_in core.root 0 0
  all_transfers = w.adds.transfers_are ∙ ap (λ v. transfers_in v (length before.ends.items) before.number) root ∙ ap (λ es. transfers_in core.root (length es) before.number) no_ends ∙ ap (transfers_in core.root 0) none

  pub whole_stands : UnitsStand new core after.units.items
  whole_stands = subst (UnitsStand new core) (sym all_units) (zipped new core (transfers_in core.root 0 0) w.adds.units all_transfers w.adds.stand)

  pub whole_ends : IsTimed core.root → HaveEnds new after.ends.items core.root 0
  whole_ends alone = have_ends new core after.ends.items core.root 0 0 alone (transfers_end new core after.ends.items (transfers_in core.root 0 0) w.adds.units all_transfers w.adds.stand w.adds.done)

  pub whole_stores : (r : ℕ) → units_in r new.cells ≡ units_in r old.cells ++ stores_to r after.units.items
  whole_stores r = w.adds.stores r ∙ ap (λ us. units_in r old.cells ++ stores_to r us) (sym all_units)
