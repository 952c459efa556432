-- What the circuit of a store is in a run: it has its part and its channel, the cell of its unit has the nets of the part's port, and its
-- read is an access of its memory.
use Rattle.std.specs.Prelude.{◌≡◌, ℕ, ◌<◌, List, ◌∷◌, ◌++◌, length, Option}
use Rattle.sp_netlist.specs.Cells.{PlainCell, store_unit}
use Rattle.sp_netlist.specs.Signals.{Setting, Signals, RunsChannel}
use Rattle.sp_core.specs.Declarations.{dims, dram_number}
use Rattle.sp_core.specs.PlainCore.{PlainCore}
use Rattle.sp_xfer.specs.declared.part.Store.{Store}
use Rattle.sp_xfer.specs.declared.part.Stored.{Stored}
use Rattle.sp_xfer.specs.Ahead.{RunsStore}
use Rattle.sp_transfer_runs.specs.Words.{moves_of}
use Rattle.sp_bound_nets.specs.Spans.{nets_of_spans}
use Rattle.sp_access_nets.specs.declared.access.AccessNets.{AccessNets}
use Rattle.sp_access_nets.specs.Accesses.{copy_in}
use Rattle.sp_tree_handed.specs.declared.moves.Direction.TheVariants.{Store as Outward}
use Rattle.sp_tree_handed.specs.declared.moves.TreeMove.{TreeMove}
use Rattle.sp_load_units.specs.declared.unit.TransferUnit.{TransferUnit}
use Rattle.sp_load_units.specs.declared.unit.UnitPort.TheVariants.{Stores}
use Rattle.sp_stored_cores.specs.Stores.{IsStoreRead}
use Rattle.sp_lower.specs.LoadsRuns.{EachOf, AreLoadRuns}

-- a store by its unit, its slice and its access: the channel stands after some cells, and the cell of the unit right behind them
pub record StoreRun (core : PlainCore) (g : Setting) (s : Signals) (names : List (Option ℕ)) (unit : TransferUnit) (slice : TreeMove) (a : AccessNets) : Type 0 where
  pub node : slice.node ≡ unit.transfer.node
  pub few : unit.transfer.dram < length core.ports.drams
  pub chip : unit.transfer.mem < length core.mems
  pub part : Store
  pub nets : Stored
  pub runs : RunsStore s part nets
  pub starts : part.start ≡ slice.start
  pub ends : nets.moving.done ≡ unit.done
  pub port : unit.port ≡ Stores part.port
  pub moves : part.moves.items ≡ moves_of (nets_of_spans slice.nets.items)
  pub dims_are : part.dims.items ≡ dims core (dram_number core unit.transfer.dram)
  pub before : List PlainCell
  pub after : List PlainCell
  pub channel : ℕ
  pub cell : g.cells ≡ before ++ store_unit channel unit.transfer.dram part.port.ready part.port.request part.port.last part.port.address part.port.word ∷ after
  pub channel_runs : RunsChannel g s before channel part.port.ready part.port.request part.port.last
  pub read : IsStoreRead core unit.transfer.number unit.transfer.mem (copy_in names unit.transfer.number) part nets a

-- each store runs so, with its access; a load is passed
abbrev pub AreStoreRuns : PlainCore → Setting → Signals → List (Option ℕ) → List TransferUnit → List TreeMove → List AccessNets → Type 0
AreStoreRuns core g s names units slices accesses = EachOf Outward (StoreRun core g s names) units slices accesses

-- the accesses of a core's loads, and behind them those of its stores
pub record RunTransfers (core : PlainCore) (g : Setting) (s : Signals) (names : List (Option ℕ)) (units : List TransferUnit) (slices : List TreeMove) (accesses : List AccessNets) : Type 0 where
  pub writes : List AccessNets
  pub reads : List AccessNets
  pub are : accesses ≡ writes ++ reads
  pub loads : AreLoadRuns core g s names units slices writes
  pub stores : AreStoreRuns core g s names units slices reads
