-- What a walk over a part of a tree adds to a draft, and to the units that it has found.
use Rattle.std.specs.Prelude.{◌≡◌, ℕ, ◌+◌, List, ◌++◌, length, count_by, map, All, Option}
use Rattle.sp_netlist.specs.Draft.{Draft, IsDraft}
use Rattle.sp_netlist.specs.Rules.{is_unit}
use Rattle.sp_taps.specs.Wires.{Promises}
use Rattle.sp_dram_words.specs.Units.{units_in}
use Rattle.sp_frames.specs.Framed.{AddsUnits}
use Rattle.sp_core.specs.Numbering.{node_count, number_count}
use Rattle.sp_core.specs.PlainCore.{PlainNode, PlainCore}
use Rattle.sp_op_nets.specs.Reserved.{Rise}
use Rattle.sp_tree_handed.specs.declared.transfers.CoreTransfer.{CoreTransfer}
use Rattle.sp_tree_handed.specs.Transfers.{transfers_in}
use Rattle.sp_load_units.specs.declared.unit.TransferUnit.{TransferUnit}
use Rattle.sp_load_units.specs.declared.walk.Walk.{Walk}
use Rattle.sp_load_units.specs.Units.{HasDrams, unit_wires_in, UnitStands, HaveDone, stores_to}

-- what a walk needs where it is
pub record CanGo (core : PlainCore) (d : Draft) (walk : Walk) : Type 0 where
  pub draft : IsDraft d
  pub units : count_by is_unit d.cells ≡ length walk.units.items
  pub drams : HasDrams core d.cells

-- the unit of a transfer by itself
abbrev pub UnitStandsAlone : Draft → PlainCore → TransferUnit → Type 0
UnitStandsAlone d core unit = UnitStands d core unit.transfer unit

-- units of these transfers were added behind those before
pub record Adds (core : PlainCore) (old : Draft) (before : Walk) (new : Draft) (after : Walk) (transfers : List CoreTransfer) : Type 0 where
  pub units : List TransferUnit
  pub ends : List (Option ℕ)
  pub units_are : after.units.items ≡ before.units.items ++ units
  pub ends_are : after.ends.items ≡ before.ends.items ++ ends
  pub transfers_are : map (λ (unit : TransferUnit). unit.transfer) units ≡ transfers
  pub promises : Promises old new (unit_wires_in units)
  pub rise : Rise (length old.promised) (unit_wires_in units)
  pub stand : All (UnitStandsAlone new core) units
  pub done : HaveDone after.ends.items units
  pub cells : AddsUnits old new
  pub stores : (r : ℕ) → units_in r new.cells ≡ units_in r old.cells ++ stores_to r units
  pub one_each : count_by is_unit new.cells ≡ count_by is_unit old.cells + length units

-- so are those of a part, which the walk has behind it
pub record Walked (core : PlainCore) (node : PlainNode) (old : Draft) (before : Walk) (new : Draft) (after : Walk) : Type 0 where
  pub adds : Adds core old before new after (transfers_in node (length before.ends.items) before.number)
  pub nodes : length after.ends.items ≡ length before.ends.items + node_count node
  pub numbers : after.number ≡ before.number + number_count node
