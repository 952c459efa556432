-- The units of a core's transfers in a draft.
use Rattle.std.specs.Prelude.{◌≡◌, ℕ, ◌<◌, ◌==◌, if◌then◌else◌, true, List, [], ◌∷◌, ◌++◌, length, count_by, flat_map, All, Option, Some}
use Rattle.std.specs.List.{AllZip}
use Rattle.sp_words.specs.Types.{width_of}
use Rattle.sp_netlist.specs.Cells.{PlainCell}
use Rattle.sp_netlist.specs.Draft.{Draft}
use Rattle.sp_netlist.specs.Rules.{is_dram, dram_width}
use Rattle.sp_gates.specs.Nets.{HasNet, Awaits}
use Rattle.sp_core.specs.Declarations.{mem, dram}
use Rattle.sp_core.specs.PlainCore.{PlainCore}
use Rattle.sp_core.specs.Typed.{is_type}
use Rattle.sp_tree_handed.specs.declared.transfers.CoreTransfer.{CoreTransfer}
use Rattle.sp_tree_handed.specs.Transfers.{transfers_in}
use Rattle.sp_tree_handed.specs.Moves.{end_at}
use Rattle.sp_dram_words.specs.Units.{StoreNets, units_in}
use Rattle.sp_load_units.specs.declared.unit.TransferUnit.{TransferUnit}
use Rattle.sp_load_units.specs.declared.unit.UnitPort.{UnitPort}
use Rattle.sp_load_units.specs.declared.unit.UnitPort.TheVariants.{Loads, Stores}
use Rattle.sp_load_units.specs.Ports.{PortRuns, PortWires, direction_of, port_wires}

-- the cell of each DRAM of a core stands, with words of its type
abbrev pub HasDrams : PlainCore → List PlainCell → Type 0
HasDrams core cells = (r : ℕ) → r < length core.ports.drams → (r < count_by is_dram cells) × (dram_width cells r ≡ width_of (dram core r).ty)

-- the nets of a unit that are to be driven: those of its port, and that by which its transfer is done
abbrev pub unit_wires : TransferUnit → List ℕ
unit_wires unit = port_wires unit.port ++ unit.done ∷ []

abbrev pub unit_wires_in : List TransferUnit → List ℕ
unit_wires_in units = flat_map unit_wires units

-- a transfer has a DRAM and a memory of the core, of one type
pub record IsTransferOf (core : PlainCore) (transfer : CoreTransfer) : Type 0 where
  pub has_dram : transfer.dram < length core.ports.drams
  pub has_mem : transfer.mem < length core.mems
  pub one_type : is_type (mem core transfer.mem).ty (dram core transfer.dram).ty ≡ true
  pub one_width : width_of (mem core transfer.mem).ty ≡ width_of (dram core transfer.dram).ty

-- the unit of a transfer, by some channel of the transfer's DRAM
pub record UnitStands (d : Draft) (core : PlainCore) (transfer : CoreTransfer) (unit : TransferUnit) : Type 0 where
  pub transfer_is : unit.transfer ≡ transfer
  pub way : direction_of unit.port ≡ transfer.direction
  pub of_core : IsTransferOf core transfer
  pub channel : ℕ
  pub runs : PortRuns d channel transfer.dram (width_of (dram core transfer.dram).ty) unit.port
  pub wires : PortWires d (width_of (dram core transfer.dram).ty) unit.port
  pub awaits : Awaits d unit.done 1
  pub done : HasNet d unit.done 1

-- there is one for each transfer of the core's tree, in its order
abbrev pub UnitsStand : Draft → PlainCore → List TransferUnit → Type 0
UnitsStand d core units = AllZip (UnitStands d core) (transfers_in core.root 0 0) units

-- the table of ends has the net by which each of them is done
abbrev pub HaveDone : List (Option ℕ) → List TransferUnit → Type 0
HaveDone ends units = All (λ (unit : TransferUnit). end_at ends unit.transfer.node ≡ Some unit.done) units

-- the nets by which a unit stores, where it does
abbrev pub stores_by : UnitPort → List StoreNets
stores_by (Loads port) = []
stores_by (Stores port) = record { ready = port.ready; address = port.address; word = port.word } ∷ []

-- those of the units that store to a DRAM, in their order
abbrev pub stores_to : (dram : ℕ) → List TransferUnit → List StoreNets
stores_to r [] = []
stores_to r (unit ∷ units) = if unit.transfer.dram == r then stores_by unit.port ++ stores_to r units else stores_to r units

-- among the cells of a draft the units that store to each DRAM are those that did, and behind them that of this port where it stores to the DRAM
abbrev pub StoresBehind : (old new : Draft) → (dram : ℕ) → UnitPort → Type 0
StoresBehind old new dram port = (r : ℕ) → units_in r new.cells ≡ units_in r old.cells ++ (if dram == r then stores_by port else [])
