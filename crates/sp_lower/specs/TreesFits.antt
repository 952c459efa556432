-- When the circuit of a core of registers, arguments, outputs, SRAMs and FIFOs can be emitted.
use Rattle.std.specs.Prelude.{◌≡◌, ◌≢◌, ℕ, ◌<◌, List, length, slice_index, Option, Contains}
use Rattle.sp_words.specs.declared.kind.Kind.TheVariants.{Sram, Fifo, ArgIn}
use Rattle.sp_words.specs.Types.{width_of}
use Rattle.sp_netlist.specs.declared.parts.Child.{Child}
use Rattle.sp_netlist.specs.Draft.{Draft}
use Rattle.sp_netlist.specs.Signals.{Setting, Signals}
use Rattle.sp_gates.specs.Nets.{HasNet}
use Rattle.sp_core.specs.Declarations.{mem, kind_of}
use Rattle.sp_core.specs.PlainCore.{PlainCore}
use Rattle.sp_plan.specs.PlainPlan.{PlainPlan}
use Rattle.sp_op_nets.specs.Reserved.{Rise}
use Rattle.sp_dram_words.specs.Units.{nets_of}
use Rattle.sp_load_units.specs.declared.unit.TransferUnit.{TransferUnit}
use Rattle.sp_load_units.specs.Units.{unit_wires_in, stores_to, UnitsStand, HaveDone}
use Rattle.sp_stored_cores.specs.Circuits.{StoredCircuit}
use Rattle.sp_stored_cores.specs.Stores.{units_of}
use Rattle.sp_tree_handed.specs.Moves.{HaveEnds}
use Rattle.sp_tree_handed.specs.Standing.{BoundsReadArguments}
use Rattle.sp_tree_nets.specs.Whole.{HasTreePlan}
use Rattle.sp_memory_nets.specs.ArrayBanks.{HasArrayPlan}
use Rattle.sp_memory_nets.specs.ArrayKinds.{AreEmitted}

-- the tree and the banks of SRAMs can be emitted by the plan, all memories are registers, arguments, outputs, SRAMs and FIFOs, and bounds
-- and slices read arguments alone
pub record CanEmitStored (core : PlainCore) (plan : PlainPlan) : Type 0 where
  pub planned : HasTreePlan core plan
  pub stored : AreEmitted core
  pub arrays : HasArrayPlan core plan
  pub bounds : BoundsReadArguments core core.root

-- each argument has the net of its port
pub record ArgumentsStand (d : Draft) (core : PlainCore) (arguments : List ℕ) : Type 0 where
  pub each : length arguments ≡ length core.mems
  pub nets : (m : ℕ) → m < length core.mems → kind_of core m ≡ ArgIn → HasNet d (slice_index arguments m) (width_of (mem core m).ty)

-- each memory of one word has a net with it
pub record WordsStand (d : Draft) (core : PlainCore) (words : List ℕ) : Type 0 where
  pub each : length words ≡ length core.mems
  pub nets : (m : ℕ) → m < length core.mems → kind_of core m ≢ Sram → kind_of core m ≢ Fifo → HasNet d (slice_index words m) (width_of (mem core m).ty)

-- The unit of each transfer stands, and a table has the nets by which transfers are done; their nets are apart, also from these.
pub record TransfersStand (d : Draft) (core : PlainCore) (units : List TransferUnit) (ends : List (Option ℕ)) (wires : List ℕ) : Type 0 where
  pub units_stand : UnitsStand d core units
  pub ends_stand : HaveEnds d ends core.root 0
  pub done : HaveDone ends units
  pub from : ℕ
  pub rise : Rise from (unit_wires_in units)
  pub apart : (net : ℕ) → Contains (unit_wires_in units) net → Contains wires net → ⊥

-- The circuit of the core in a run. The units of its stores to each DRAM are those that stand, in their order.
pub record RunsWithUnits (core : PlainCore) (plan : PlainPlan) (g : Setting) (s : Signals) (c : Child) (arguments words : List ℕ) (units : List TransferUnit) : Type 0 where
  pub circuit : StoredCircuit core plan g s c arguments words
  pub units_are : (r : ℕ) → nets_of (units_of r circuit.storing) ≡ stores_to r units
