-- Stores that are emitted one after the other.
use Rattle.std.proofs.Common.{◌≡◌, ℕ, List, [], ◌∷◌, ◌++◌, All, Option, refl, sym, ap, subst, ◌∙◌, append_assoc}
use Rattle.std.proofs.lemmas.List.{append-nil}
use Rattle.std.proofs.lemmas.List.Elements.{All-nil, All-cons, All-append, Contains-append_left}
use Rattle.std.specs.Prelude.{Contains}
use Rattle.sp_netlist.specs.Draft.{Draft}
use Rattle.sp_netlist.specs.Signals.{Setting, Signals}
use Rattle.sp_gates.specs.Nets.{IsOpen}
use Rattle.sp_gates.specs.Runs.{RunsOn}
use Rattle.sp_core.specs.PlainCore.{PlainCore}
use Rattle.sp_access_nets.specs.declared.access.AccessNets.{AccessNets}
use Rattle.sp_access_nets.specs.Laws.{net_in, answer_nets}
use Rattle.sp_tree_handed.specs.declared.moves.Direction.{Direction}
use Rattle.sp_tree_handed.specs.declared.moves.Direction.TheVariants.{Load as Inward, Store as Outward}
use Rattle.sp_tree_handed.specs.declared.moves.TreeMove.{TreeMove}
use Rattle.sp_lower.proofs.LoadsRunning.{run_before}
use Rattle.sp_load_units.specs.declared.unit.TransferUnit.{TransferUnit}
use Rattle.sp_load_units.specs.Units.{unit_wires}
use Rattle.sp_lower.specs.StoresParts.{DrivesAndReserves, ReadStands, AddsReads, store_wires_in}
use Rattle.sp_lower.specs.LoadsParts.{wires_of}
use Rattle.sp_lower.specs.LoadsRuns.{OneOf}
use Rattle.sp_lower.specs.StoresRuns.{StoreRun, AreStoreRuns}
use Rattle.sp_lower.proofs.StoresLater.{drives_none, drives_join, reads_later, both_answers}

module _ (core : PlainCore) (names : List (Option ℕ)) where
  no_reads : (d : Draft) (before : List AccessNets) → AddsReads d d core names [] [] before before
  no_reads d before = record { added = []; behind = sym (append-nil before); drives = drives_none d; stand = All-nil (ReadStands d core); runs = λ s r. tt }

  pub adds_none : (d : Draft) (units : List TransferUnit) (slices : List TreeMove) (before : List AccessNets) → units ≡ [] → slices ≡ [] → AddsReads d d core names units slices before before
  adds_none d units slices before e f = subst (λ us. AddsReads d d core names us slices before before) (sym e) (subst (λ xs. AddsReads d d core names [] xs before before) (sym f) (no_reads d before))

  -- a load is passed
  pub passes_load : (d : Draft) (unit : TransferUnit) (slice : TreeMove) (before : List AccessNets) → unit.transfer.direction ≡ Inward → AddsReads d d core names (unit ∷ []) (slice ∷ []) before before
  passes_load d unit slice before e = record {
    added = [];
    behind = sym (append-nil before);
    drives = subst (λ way. DrivesAndReserves d d (wires_of Outward way (unit_wires unit) ++ []) []) (sym e) (drives_none d);
    stand = All-nil (ReadStands d core);
    runs = λ s r. subst (λ way. OneOf Outward way (StoreRun core r.setting s names unit slice) (λ more. AreStoreRuns core r.setting s names [] [] more) []) (sym e) tt;
  }

  -- the read of a store is one more access
  pub adds_store : (old new : Draft) (unit : TransferUnit) (slice : TreeMove) (a : AccessNets) (before after : List AccessNets) → unit.transfer.direction ≡ Outward → DrivesAndReserves old new (unit_wires unit) (net_in a.answer) → ReadStands new core a
      → ((s : Signals) → (r : RunsOn s new.cells) → StoreRun core r.setting s names unit slice a) → after ≡ before ++ a ∷ [] → AddsReads old new core names (unit ∷ []) (slice ∷ []) before after
  adds_store old new unit slice a before after e drives stands runs behind = record {
    added = a ∷ [];
    behind = behind;
    drives =
        subst (λ way. DrivesAndReserves old new (wires_of Outward way (unit_wires unit) ++ []) (net_in a.answer ++ [])) (sym e)
        (subst (λ ns. DrivesAndReserves old new ns (net_in a.answer ++ [])) (sym (append-nil (unit_wires unit))) (subst (λ ns. DrivesAndReserves old new (unit_wires unit) ns) (sym (append-nil (net_in a.answer))) drives));
    stand = All-cons (ReadStands new core) a [] stands (All-nil (ReadStands new core));
    runs = λ s r. subst (λ way. OneOf Outward way (StoreRun core r.setting s names unit slice) (λ more. AreStoreRuns core r.setting s names [] [] more) (a ∷ [])) (sym e) (runs s r, tt);
  }

  one_then : (P : AccessNets → Type 0) (way : Direction) (None Rest : List AccessNets → Type 0) (first later : List AccessNets) → ((xs : List AccessNets) → None xs → xs ≡ []) → OneOf Outward way P None first → Rest later → OneOf Outward way P Rest (first ++ later)
  one_then P Outward None Rest [] later only h k = absurd h
  one_then P Outward None Rest (a ∷ first) later only h k = (h.0, subst (λ xs. Rest (xs ++ later)) (sym (only first h.1)) k)
  one_then P Inward None Rest first later only h k = subst (λ xs. Rest (xs ++ later)) (sym (only first h)) k

  none_more : (g : Setting) (s : Signals) (xs : List AccessNets) → AreStoreRuns core g s names [] [] xs → xs ≡ []
  none_more g s [] h = refl
  none_more g s (x ∷ xs) h = absurd h

  pub adds_more : (old mid new : Draft) (unit : TransferUnit) (units : List TransferUnit) (slice : TreeMove) (slices : List TreeMove) (before between after : List AccessNets) → ((net : ℕ) → Contains (store_wires_in units) net → IsOpen old net)
      → AddsReads old mid core names (unit ∷ []) (slice ∷ []) before between → AddsReads mid new core names units slices between after → AddsReads old new core names (unit ∷ units) (slice ∷ slices) before after
  adds_more old mid new unit units slice slices before between after open_old f h =
      let drives = drives_join old mid new (store_wires_in (unit ∷ [])) (answer_nets f.added) (store_wires_in units) (answer_nets h.added) f.drives h.drives open_old in
      record {
        added = f.added ++ h.added;
        behind = h.behind ∙ ap (λ xs. xs ++ h.added) f.behind ∙ append_assoc before f.added h.added;
        drives =
            subst (λ ns. DrivesAndReserves old new (ns ++ store_wires_in units) (answer_nets (f.added ++ h.added))) (append-nil (wires_of Outward unit.transfer.direction (unit_wires unit)))
            (subst (λ ns. DrivesAndReserves old new (store_wires_in (unit ∷ []) ++ store_wires_in units) ns) (sym (both_answers f.added h.added)) drives);
        stand =
            All-append (ReadStands new core) f.added h.added
            (reads_later mid new core f.added h.drives.grows (λ net c. drives.are_open net (Contains-append_left (answer_nets f.added) (answer_nets h.added) net c)) f.stand) h.stand;
        runs = λ s r. one_then (StoreRun core r.setting s names unit slice) unit.transfer.direction (λ more. AreStoreRuns core r.setting s names [] [] more) (λ more. AreStoreRuns core r.setting s names units slices more) f.added h.added (none_more r.setting s) (f.runs s (run_before mid new s h.drives.grows r)) (h.runs s r);
      }

  -- where none came before
  module _ (old new : Draft) (units : List TransferUnit) (slices : List TreeMove) (before after : List AccessNets) (h : AddsReads old new core names units slices before after) (none : before ≡ []) where
    all_added : after ≡ h.added
    all_added = h.behind ∙ ap (λ xs. xs ++ h.added) none

    pub all_drive : DrivesAndReserves old new (store_wires_in units) (answer_nets after)
    all_drive = subst (λ xs. DrivesAndReserves old new (store_wires_in units) (answer_nets xs)) (sym all_added) h.drives

    pub all_stand : All (ReadStands new core) after
    all_stand = subst (All (ReadStands new core)) (sym all_added) h.stand

    pub all_run : (s : Signals) → (r : RunsOn s new.cells) → AreStoreRuns core r.setting s names units slices after
    all_run s r = subst (AreStoreRuns core r.setting s names units slices) (sym all_added) (h.runs s r)
