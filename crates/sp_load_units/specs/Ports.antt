-- The port of a unit, in either direction.
use Rattle.std.specs.Prelude.{ℕ, List}
use Rattle.sp_netlist.specs.Draft.{Draft}
use Rattle.sp_channels.specs.Ports.{load_wires, store_wires, AreLoadWires, AreStoreWires}
use Rattle.sp_channels.specs.Units.{IsLoadUnit, IsStoreUnit}
use Rattle.sp_tree_handed.specs.declared.moves.Direction.{Direction}
use Rattle.sp_tree_handed.specs.declared.moves.Direction.TheVariants.{Load, Store}
use Rattle.sp_load_units.specs.declared.unit.UnitPort.{UnitPort}
use Rattle.sp_load_units.specs.declared.unit.UnitPort.TheVariants.{Loads, Stores}

abbrev pub direction_of : UnitPort → Direction
direction_of (Loads port) = Load
direction_of (Stores port) = Store

-- the nets that are to be driven
abbrev pub port_wires : UnitPort → List ℕ
port_wires (Loads port) = load_wires port
port_wires (Stores port) = store_wires port

-- they have their widths, of which that of a word is this one, and no cell drives them yet
abbrev pub PortWires : Draft → (width : ℕ) → UnitPort → Type 0
PortWires d width (Loads port) = AreLoadWires d port
PortWires d width (Stores port) = AreStoreWires d width port

-- the unit runs by a channel, and moves words of this width
abbrev pub PortRuns : Draft → (channel dram width : ℕ) → UnitPort → Type 0
PortRuns d channel r width (Loads port) = IsLoadUnit d channel r width port
PortRuns d channel r width (Stores port) = IsStoreUnit d channel r port
