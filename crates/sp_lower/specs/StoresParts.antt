-- The parts of stores, what they drive and reserve, and how their reads stand in a draft.
use Rattle.std.specs.Prelude.{◌≡◌, ℕ, ◌<◌, List, ◌++◌, length, All, Contains, Option, Some}
use Rattle.sp_words.specs.declared.kind.Kind.TheVariants.{Sram}
use Rattle.sp_words.specs.Types.{width_of}
use Rattle.sp_netlist.specs.Draft.{Draft}
use Rattle.sp_netlist.specs.Signals.{Signals}
use Rattle.sp_gates.specs.Grows.{Grows, AddsGates}
use Rattle.sp_gates.specs.Nets.{IsOpen, Awaits}
use Rattle.sp_gates.specs.Runs.{RunsOn}
use Rattle.sp_core.specs.declared.operation.OpKind.TheVariants.{Read}
use Rattle.sp_core.specs.Declarations.{mem, dram, kind_of}
use Rattle.sp_core.specs.PlainCore.{PlainCore}
use Rattle.sp_mem.specs.Fits.{CopyFits}
use Rattle.sp_circuit_ops.specs.declared.ops.WordNet.{WordNet}
use Rattle.sp_op_nets.specs.Reserved.{Rise}
use Rattle.sp_xfer.specs.declared.part.Store.{Store}
use Rattle.sp_transfer_runs.specs.Words.{moves_of}
use Rattle.sp_bound_nets.specs.Spans.{nets_of_spans}
use Rattle.sp_access_nets.specs.declared.access.AccessNets.{AccessNets}
use Rattle.sp_access_nets.specs.Laws.{answer_nets}
use Rattle.sp_tree_handed.specs.declared.moves.Direction.TheVariants.{Store as Outward}
use Rattle.sp_tree_handed.specs.declared.moves.TreeMove.{TreeMove}
use Rattle.sp_tree_handed.specs.Standing.{AccessStands}
use Rattle.sp_tree_accesses.specs.Queued.{QueuedStands}
use Rattle.sp_load_units.specs.declared.unit.TransferUnit.{TransferUnit}
use Rattle.sp_load_units.specs.declared.unit.UnitPort.TheVariants.{Stores}
use Rattle.sp_load_units.specs.Walks.{UnitStandsAlone}
use Rattle.sp_lower.specs.LoadsParts.{wires_for}
use Rattle.sp_lower.specs.StoresRuns.{AreStoreRuns}

-- a unit stores
abbrev pub Storing : TransferUnit → Type 0
Storing unit = unit.transfer.direction ≡ Outward

-- a word that comes on a net two cycles later
abbrev pub two_later : (net : ℕ) → WordNet
two_later net = record { net = net; after = 2 }

-- the part of a store, by its unit, its slice and the net of a reader
pub record IsStorePart (core : PlainCore) (unit : TransferUnit) (slice : TreeMove) (net bits : ℕ) (part : Store) : Type 0 where
  pub start : part.start ≡ slice.start
  pub port : unit.port ≡ Stores part.port
  pub dims : part.dims.items ≡ (dram core unit.transfer.dram).dims
  pub moves : part.moves.items ≡ moves_of (nets_of_spans slice.nets.items)
  pub found : part.found ≡ net
  pub width : part.width ≡ bits

-- Gates were added. Of the nets that were open exactly the ones were driven, and exactly the others are open more: they are new, and each is another one.
pub record DrivesAndReserves (old new : Draft) (driven reserved : List ℕ) : Type 0 where
  pub grows : Grows old new
  pub rise : Rise (length old.promised) reserved
  pub are_open : (net : ℕ) → Contains reserved net → IsOpen new net
  pub still_open : (net : ℕ) → IsOpen old net → (Contains driven net → ⊥) → IsOpen new net
  pub no_other : (net : ℕ) → IsOpen new net → (Contains reserved net → ⊥) → IsOpen old net × (Contains driven net → ⊥)
  pub gates : AddsGates old new

-- an access stands that is to be answered on a net, which no cell drives yet
pub record ReadStands (d : Draft) (core : PlainCore) (a : AccessNets) : Type 0 where
  pub stands : AccessStands d core a
  pub copied : CopyFits d a.copy
  pub queued : QueuedStands d core a
  pub within : a.mem < length core.mems
  pub word : WordNet
  pub answer : a.answer ≡ Some word
  pub reads : a.kind ≡ Read
  pub awaits : Awaits d word.net (width_of (mem core a.mem).ty)

-- a unit of a store stands by itself; of that of a load nothing is said
abbrev pub StoreUnitStands : Draft → PlainCore → TransferUnit → Type 0
StoreUnitStands d core unit = Storing unit → UnitStandsAlone d core unit

-- a store reads an SRAM
abbrev pub ReadsSram : PlainCore → TransferUnit → Type 0
ReadsSram core unit = Storing unit → kind_of core unit.transfer.mem ≡ Sram

-- the nets of units of stores that are to be driven
abbrev pub store_wires_in : List TransferUnit → List ℕ
store_wires_in units = wires_for Outward units

-- the reads of stores come behind other accesses
pub record AddsReads (old new : Draft) (core : PlainCore) (names : List (Option ℕ)) (units : List TransferUnit) (slices : List TreeMove) (before after : List AccessNets) : Type 0 where
  pub added : List AccessNets
  pub behind : after ≡ before ++ added
  pub drives : DrivesAndReserves old new (store_wires_in units) (answer_nets added)
  pub stand : All (ReadStands new core) added
  pub runs : (s : Signals) → (r : RunsOn s new.cells) → AreStoreRuns core r.setting s names units slices added

-- the access of a transfer stands; where it is to be answered it reads
pub record TransferStands (d : Draft) (core : PlainCore) (a : AccessNets) : Type 0 where
  pub stands : AccessStands d core a
  pub copied : CopyFits d a.copy
  pub queued : QueuedStands d core a
  pub within : a.mem < length core.mems
  pub reads : (word : WordNet) → a.answer ≡ Some word → a.kind ≡ Read
