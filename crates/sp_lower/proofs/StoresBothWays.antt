-- Loads, and then stores.
use Rattle.std.proofs.Common.{◌≡◌, ℕ, List, [], ◌++◌, Contains, All, Option, Some, None, sym, ap, subst, ◌∙◌}
use Rattle.std.proofs.lemmas.List.Elements.{All-append, All-weaker}
use Rattle.sp_netlist.specs.Draft.{Draft}
use Rattle.sp_netlist.specs.Signals.{Signals}
use Rattle.sp_gates.specs.Grows.{Fills}
use Rattle.sp_gates.specs.Nets.{IsOpen}
use Rattle.sp_gates.specs.Runs.{RunsOn}
use Rattle.sp_core.specs.PlainCore.{PlainCore}
use Rattle.sp_op_nets.specs.Reserved.{Rise}
use Rattle.sp_access_nets.specs.declared.access.AccessNets.{AccessNets}
use Rattle.sp_access_nets.specs.Laws.{answer_nets}
use Rattle.sp_tree_handed.specs.declared.moves.Direction.TheVariants.{Load as Inward}
use Rattle.sp_tree_handed.specs.declared.moves.TreeMove.{TreeMove}
use Rattle.sp_load_units.specs.declared.unit.TransferUnit.{TransferUnit}
use Rattle.sp_load_units.specs.Units.{unit_wires_in, UnitsStand}
use Rattle.sp_lower.specs.LoadsParts.{wires_for, WriteStands}
use Rattle.sp_lower.specs.LoadsRuns.{AreLoadRuns}
use Rattle.sp_lower.proofs.LoadsRunning.{run_before}
use Rattle.sp_lower.proofs.LoadsWriting.{write_later}
use Rattle.sp_lower.specs.StoresParts.{DrivesAndReserves, ReadStands, StoreUnitStands, TransferStands, store_wires_in}
use Rattle.sp_lower.specs.StoresRuns.{AreStoreRuns, RunTransfers}
use Rattle.sp_lower.proofs.StoresKnowing.{all_stand, all_stay, fills_drive}
use Rattle.sp_lower.proofs.StoresLater.{both_answers, drives_join, stores_open}
use Rattle.sp_lower.proofs.StoresWires.{wires_apart}

write_so : (d : Draft) (core : PlainCore) (a : AccessNets) → WriteStands d core a → TransferStands d core a
write_so d core a h = record {
  stands = h.stands;
  copied = h.copied;
  queued = h.queued;
  within = h.within;
  reads = λ word e. absurd (let clash : Some word ≡ None = sym e ∙ h.unanswered in cc);
}

read_so : (d : Draft) (core : PlainCore) (a : AccessNets) → ReadStands d core a → TransferStands d core a
read_so d core a h = record { stands = h.stands; copied = h.copied; queued = h.queued; within = h.within; reads = λ word e. h.reads }

-- what drives these nets drives those
drives_so : (a b : Draft) (xs ys reserved : List ℕ) → ((n : ℕ) → Contains xs n → Contains ys n) → ((n : ℕ) → Contains ys n → Contains xs n) → DrivesAndReserves a b xs reserved → DrivesAndReserves a b ys reserved
drives_so a b xs ys reserved to from f = record {
  grows = f.grows;
  rise = f.rise;
  are_open = f.are_open;
  still_open = λ net o out. f.still_open net o (λ c. out (to net c));
  no_other = λ net o out. (let r = f.no_other net o out in (r.0, λ c. r.1 (from net c)));
  gates = f.gates;
}

module _ (old mid : Draft) (core : PlainCore) (units : List TransferUnit) (from : ℕ) (stand : UnitsStand old core units) (rise : Rise from (unit_wires_in units)) (f : Fills old mid (wires_for Inward units)) where
  open_before : (net : ℕ) → Contains (store_wires_in units) net → IsOpen old net
  open_before = stores_open old core units (all_stand old core units stand)

  -- where loads were emitted the units of stores still stand
  pub still_stand : All (StoreUnitStands mid core) units
  still_stand = all_stay old mid core units f.grows (λ net there. f.still_open net (open_before net there) (λ own. (wires_apart units).apart from rise net own there)) (all_stand old core units stand)

  module _ (new : Draft) (writes reads accesses : List AccessNets) (are : accesses ≡ writes ++ reads) (none : answer_nets writes ≡ []) (g : DrivesAndReserves mid new (store_wires_in units) (answer_nets reads)) where
    answers_are : answer_nets reads ≡ answer_nets accesses
    answers_are = sym (ap answer_nets are ∙ both_answers writes reads ∙ ap (λ ns. ns ++ answer_nets reads) none)

    pub all_drive : DrivesAndReserves old new (unit_wires_in units) (answer_nets accesses)
    all_drive =
        subst (DrivesAndReserves old new (unit_wires_in units)) answers_are
        (drives_so old new (wires_for Inward units ++ store_wires_in units) (unit_wires_in units) (answer_nets reads) (wires_apart units).no_other (wires_apart units).all
        (drives_join old mid new (wires_for Inward units) [] (store_wires_in units) (answer_nets reads) (fills_drive old mid (wires_for Inward units) f) g open_before))

    pub both_stand : All (WriteStands mid core) writes → All (ReadStands new core) reads → All (TransferStands new core) accesses
    both_stand w r =
        subst (All (TransferStands new core)) (sym are)
        (All-append (TransferStands new core) writes reads (All-weaker (WriteStands mid core) (TransferStands new core) (λ a h. write_so new core a (write_later mid new core a g.grows h)) writes w)
        (All-weaker (ReadStands new core) (TransferStands new core) (read_so new core) reads r))

    pub both_run : (names : List (Option ℕ)) (slices : List TreeMove) → ((s : Signals) → (r : RunsOn s mid.cells) → AreLoadRuns core r.setting s names units slices writes) → ((s : Signals) → (r : RunsOn s new.cells) → AreStoreRuns core r.setting s names units slices reads)
        → (s : Signals) → (r : RunsOn s new.cells) → RunTransfers core r.setting s names units slices accesses
    both_run names slices loads stores s r = record { writes = writes; reads = reads; are = are; loads = loads s (run_before mid new s g.grows r); stores = stores s r }
