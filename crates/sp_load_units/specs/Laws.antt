-- Laws of the units of a core's transfers, as statements.
use Rattle.std.specs.Prelude.{ℕ, List, Contains}
use Rattle.sp_words.specs.Ports.{PlainPort}
use Rattle.sp_netlist.specs.Draft.{Draft}
use Rattle.sp_gates.specs.Grows.{Grows}
use Rattle.sp_gates.specs.Nets.{IsOpen}
use Rattle.sp_core.specs.PlainCore.{PlainCore}
use Rattle.sp_frames.specs.Framed.{front_cells}
use Rattle.sp_load_units.specs.declared.unit.TransferUnit.{TransferUnit}
use Rattle.sp_load_units.specs.Units.{HasDrams, unit_wires_in, UnitsStand}

-- behind arguments the DRAMs of a core stand
abbrev pub DramsStand : Type 0
DramsStand = (core : PlainCore) (args : List PlainPort) (nets : List ℕ) → HasDrams core (front_cells args nets core.ports.drams)

-- the nets of units that are to be driven are open
abbrev pub UnitsAreOpen : Type 0
UnitsAreOpen = (d : Draft) (core : PlainCore) (units : List TransferUnit) → UnitsStand d core units → (net : ℕ) → Contains (unit_wires_in units) net → IsOpen d net

-- units that stand still do in a later draft in which these nets are open
abbrev pub UnitsStay : Type 0
UnitsStay =
    (old new : Draft) (core : PlainCore) (units : List TransferUnit) → Grows old new → ((net : ℕ) → Contains (unit_wires_in units) net → IsOpen new net)
    → UnitsStand old core units → UnitsStand new core units
