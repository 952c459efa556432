-- What is emitted of a store, in a run.
use Rattle.std.proofs.Common.{◌≡◌, ℕ, List, ◌∷◌, ◌++◌, Option, ap, subst, ◌∙◌, append_assoc}
use Rattle.sp_words.specs.Types.{width_of}
use Rattle.sp_netlist.specs.Cells.{store_unit}
use Rattle.sp_netlist.specs.Draft.{Draft}
use Rattle.sp_netlist.specs.Signals.{Signals}
use Rattle.sp_gates.specs.Grows.{Grows}
use Rattle.sp_gates.specs.Runs.{RunsOn}
use Rattle.sp_core.specs.Declarations.{dram}
use Rattle.sp_core.specs.PlainCore.{PlainCore}
use Rattle.sp_channels.specs.Units.{IsStoreUnit}
use Rattle.sp_xfer.specs.declared.part.Store.{Store}
use Rattle.sp_xfer.specs.declared.part.Stored.{Stored}
use Rattle.sp_xfer.specs.Ahead.{RunsStore}
use Rattle.sp_access_nets.specs.declared.access.AccessNets.{AccessNets}
use Rattle.sp_access_nets.specs.Accesses.{copy_in}
use Rattle.sp_tree_handed.specs.declared.moves.TreeMove.{TreeMove}
use Rattle.sp_stored_cores.specs.Stores.{IsStoreRead}
use Rattle.sp_load_units.specs.declared.unit.TransferUnit.{TransferUnit}
use Rattle.sp_load_units.specs.Ports.{PortRuns}
use Rattle.sp_load_units.specs.Walks.{UnitStandsAlone}
use Rattle.sp_lower.proofs.LoadsRunning.{run_before, dram_dims}
use Rattle.sp_lower.specs.StoresParts.{IsStorePart}
use Rattle.sp_lower.specs.StoresRuns.{StoreRun}

pub store_run : (old new : Draft) (core : PlainCore) (names : List (Option ℕ)) (unit : TransferUnit) (slice : TreeMove) (found width : ℕ) (part : Store) (stored : Stored) (a : AccessNets)
    → UnitStandsAlone old core unit → Grows old new → slice.node ≡ unit.transfer.node → IsStorePart core unit slice found width part → stored.moving.done ≡ unit.done
    → IsStoreRead core unit.transfer.number unit.transfer.mem (copy_in names unit.transfer.number) part stored a
    → (s : Signals) → (r : RunsOn s new.cells) → RunsStore s part stored → StoreRun core r.setting s names unit slice a
store_run old new core names unit slice found width part stored a u g node p done read s r runs =
    let earlier = run_before old new s g r in
    let own : IsStoreUnit old u.channel unit.transfer.dram part.port = subst (PortRuns old u.channel unit.transfer.dram (width_of (dram core unit.transfer.dram).ty)) p.port u.runs in
    let port = part.port in
    record {
      node = node;
      few = u.of_core.has_dram;
      chip = u.of_core.has_mem;
      part = part;
      nets = stored;
      runs = runs;
      starts = p.start;
      ends = done;
      port = p.port;
      moves = p.moves;
      dims_are = p.dims ∙ dram_dims core unit.transfer.dram;
      before = own.before;
      after = own.after ++ earlier.rest;
      channel = u.channel;
      cell =
          earlier.stands ∙ ap (λ cells. cells ++ earlier.rest) own.stands
          ∙ append_assoc own.before (store_unit u.channel unit.transfer.dram port.ready port.request port.last port.address port.word ∷ own.after) earlier.rest;
      channel_runs = own.runs r.setting s earlier.rest r.run earlier.stands;
      read = read;
    }
