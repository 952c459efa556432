-- The parts of loads, and how their writes stand in a draft.
use Rattle.std.specs.Prelude.{◌≡◌, ℕ, ◌<◌, List, [], ◌∷◌, ◌++◌, length, flat_map, All, Option, None}
use Rattle.sp_netlist.specs.Draft.{Draft}
use Rattle.sp_netlist.specs.Signals.{Signals}
use Rattle.sp_gates.specs.Grows.{Fills}
use Rattle.sp_gates.specs.Nets.{HasNet}
use Rattle.sp_gates.specs.Runs.{RunsOn}
use Rattle.sp_core.specs.Declarations.{dram}
use Rattle.sp_core.specs.PlainCore.{PlainCore}
use Rattle.sp_mem.specs.Fits.{CopyFits}
use Rattle.sp_xfer.specs.declared.part.Load.{Load}
use Rattle.sp_transfer_runs.specs.Words.{moves_of}
use Rattle.sp_bound_nets.specs.Spans.{nets_of_spans, HasEnds}
use Rattle.sp_access_nets.specs.declared.access.AccessNets.{AccessNets}
use Rattle.sp_tree_handed.specs.declared.moves.Direction.{Direction}
use Rattle.sp_tree_handed.specs.declared.moves.Direction.TheVariants.{Load as Inward, Store as Outward}
use Rattle.sp_tree_handed.specs.declared.moves.TreeMove.{TreeMove}
use Rattle.sp_tree_handed.specs.Standing.{AccessStands}
use Rattle.sp_tree_accesses.specs.Queued.{QueuedStands}
use Rattle.sp_load_units.specs.declared.unit.TransferUnit.{TransferUnit}
use Rattle.sp_load_units.specs.declared.unit.UnitPort.TheVariants.{Loads}
use Rattle.sp_load_units.specs.Units.{unit_wires}
use Rattle.sp_lower.specs.LoadsRuns.{AreLoadRuns}

-- a unit loads
abbrev pub Loading : TransferUnit → Type 0
Loading unit = unit.transfer.direction ≡ Inward

-- a slice that is handed on is that of a unit's transfer: it has the ends of a span for each dimension of the DRAM
pub record SliceStands (d : Draft) (core : PlainCore) (unit : TransferUnit) (slice : TreeMove) : Type 0 where
  pub node : slice.node ≡ unit.transfer.node
  pub start : HasNet d slice.start 1
  pub each : length (dram core unit.transfer.dram).dims ≡ length slice.nets.items
  pub nets : All (HasEnds d) slice.nets.items

-- unit by unit
abbrev pub AreSlicesStanding : Draft → PlainCore → List TransferUnit → List TreeMove → Type 0
AreSlicesStanding d core [] [] = Unit {0}
AreSlicesStanding d core (unit ∷ units) (slice ∷ slices) = SliceStands d core unit slice × AreSlicesStanding d core units slices
AreSlicesStanding d core _ _ = ⊥

-- the part of a load, by its unit and its slice
pub record IsPartOf (core : PlainCore) (unit : TransferUnit) (slice : TreeMove) (part : Load) : Type 0 where
  pub start : part.start ≡ slice.start
  pub port : unit.port ≡ Loads part.port
  pub dims : part.dims.items ≡ (dram core unit.transfer.dram).dims
  pub moves : part.moves.items ≡ moves_of (nets_of_spans slice.nets.items)

-- an access stands that is never answered
pub record WriteStands (d : Draft) (core : PlainCore) (a : AccessNets) : Type 0 where
  pub stands : AccessStands d core a
  pub copied : CopyFits d a.copy
  pub queued : QueuedStands d core a
  pub within : a.mem < length core.mems
  pub unanswered : a.answer ≡ None

-- the nets of units of one direction that are to be driven
abbrev pub wires_of : (way own : Direction) → List ℕ → List ℕ
wires_of Inward Inward wires = wires
wires_of Inward Outward wires = []
wires_of Outward Inward wires = []
wires_of Outward Outward wires = wires

abbrev pub wires_for : Direction → List TransferUnit → List ℕ
wires_for way units = flat_map (λ (unit : TransferUnit). wires_of way unit.transfer.direction (unit_wires unit)) units

-- the writes of loads come behind other accesses, and of the nets that were open those of the loads' units are driven
pub record AddsWrites (old new : Draft) (core : PlainCore) (names : List (Option ℕ)) (units : List TransferUnit) (slices : List TreeMove) (before after : List AccessNets) : Type 0 where
  pub added : List AccessNets
  pub behind : after ≡ before ++ added
  pub fills : Fills old new (wires_for Inward units)
  pub stand : All (WriteStands new core) added
  pub runs : (s : Signals) → (r : RunsOn s new.cells) → AreLoadRuns core r.setting s names units slices added
