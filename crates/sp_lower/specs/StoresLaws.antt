-- Laws of stores, as statements: what has to be known before they are emitted, what is driven and reserved by parts in turn, and that what was
-- emitted is what loads and stores are asked for.
use Rattle.std.specs.Prelude.{◌≡◌, ℕ, List, [], ◌++◌, map, All, Contains, Option, Some}
use Rattle.sp_netlist.specs.declared.parts.Child.{Child}
use Rattle.sp_netlist.specs.Draft.{Draft}
use Rattle.sp_netlist.specs.Signals.{Setting, Signals}
use Rattle.sp_gates.specs.Grows.{Grows, Fills}
use Rattle.sp_gates.specs.Nets.{IsOpen}
use Rattle.sp_core.specs.Invariant.{IsCore}
use Rattle.sp_core.specs.PlainCore.{PlainCore}
use Rattle.sp_plan.specs.PlainPlan.{PlainPlan}
use Rattle.sp_node_runs.specs.BodiesGiven.{Nets}
use Rattle.sp_op_nets.specs.Reserved.{Rise, Reserves}
use Rattle.sp_access_nets.specs.declared.access.AccessNets.{AccessNets}
use Rattle.sp_tree_circuits.specs.Circuits.{Circuit}
use Rattle.sp_tree_handed.specs.declared.moves.Direction.TheVariants.{Load as Inward}
use Rattle.sp_tree_handed.specs.declared.moves.TreeMove.{TreeMove}
use Rattle.sp_tree_handed.specs.Moves.{slices_in, end_at, AreMoves, AreMovesStanding}
use Rattle.sp_dram_words.specs.Units.{nets_of}
use Rattle.sp_stored_cores.specs.Loads.{Channel, HasLoads}
use Rattle.sp_stored_cores.specs.Stores.{StoreAccess, units_of, HasStores}
use Rattle.sp_load_units.specs.declared.unit.TransferUnit.{TransferUnit}
use Rattle.sp_load_units.specs.Units.{unit_wires_in, stores_to, UnitsStand, HaveDone}
use Rattle.sp_lower.specs.LoadsParts.{AreSlicesStanding, wires_for}
use Rattle.sp_lower.specs.LoadsRuns.{AreLoadRuns}
use Rattle.sp_lower.specs.StoresParts.{DrivesAndReserves, ReadsSram, StoreUnitStands, store_wires_in}
use Rattle.sp_lower.specs.StoresRuns.{StoreRun, AreStoreRuns}

-- the stores of a core read SRAMs, and their units stand where those of all transfers do
abbrev pub StoresReadSrams : Type 0
StoresReadSrams = (d : Draft) (core : PlainCore) (units : List TransferUnit) → IsCore core → UnitsStand d core units → All (ReadsSram core) units

abbrev pub StoresStand : Type 0
StoresStand = (d : Draft) (core : PlainCore) (units : List TransferUnit) → UnitsStand d core units → All (StoreUnitStands d core) units

-- their nets are open, and where these still are the units still stand
abbrev pub StoresAreOpen : Type 0
StoresAreOpen = (d : Draft) (core : PlainCore) (units : List TransferUnit) → All (StoreUnitStands d core) units → (net : ℕ) → Contains (store_wires_in units) net → IsOpen d net

abbrev pub StoresStay : Type 0
StoresStay = (old new : Draft) (core : PlainCore) (units : List TransferUnit) → Grows old new → ((net : ℕ) → Contains (store_wires_in units) net → IsOpen new net) → All (StoreUnitStands old core) units → All (StoreUnitStands new core) units

-- what a tree hands on of its transfers are the slices of their units, and stands in a later draft
abbrev pub SlicesAreOfUnits : Type 0
SlicesAreOfUnits = (d : Draft) (core : PlainCore) (units : List TransferUnit) (slices : List TreeMove) → IsCore core → UnitsStand d core units → AreMovesStanding d (slices_in core.root 0) slices → AreSlicesStanding d core units slices

abbrev pub SlicesStay : Type 0
SlicesStay = (old new : Draft) (core : PlainCore) (units : List TransferUnit) (slices : List TreeMove) → Grows old new → AreSlicesStanding old core units slices → AreSlicesStanding new core units slices

-- nets are driven alone, or reserved alone; of two parts in turn the second one drives what was open before the first; and what was reserved is
-- driven by a part behind
abbrev pub FillsDrive : Type 0
FillsDrive = (old new : Draft) (driven : List ℕ) → Fills old new driven → DrivesAndReserves old new driven []

abbrev pub ReservesAlone : Type 0
ReservesAlone = (old new : Draft) (reserved : List ℕ) → Reserves old new reserved → DrivesAndReserves old new [] reserved

abbrev pub DriveInTurn : Type 0
DriveInTurn =
    (first second third : Draft) (driven reserved more others : List ℕ) → DrivesAndReserves first second driven reserved → DrivesAndReserves second third more others → ((net : ℕ) → Contains more net → IsOpen first net)
    → DrivesAndReserves first third (driven ++ more) (reserved ++ others)

abbrev pub DrivenBehind : Type 0
DrivenBehind = (first second third : Draft) (driven reserved more : List ℕ) → DrivesAndReserves first second driven reserved → Fills second third (reserved ++ more) → Fills first third (driven ++ more)

-- the nets of loads and those of stores are apart where all rise, and are all of them
pub record WiresAreApart (units : List TransferUnit) : Type 0 where
  pub apart : (from : ℕ) → Rise from (unit_wires_in units) → (net : ℕ) → Contains (wires_for Inward units) net → Contains (store_wires_in units) net → ⊥
  pub all : (net : ℕ) → Contains (unit_wires_in units) net → Contains (wires_for Inward units ++ store_wires_in units) net
  pub no_other : (net : ℕ) → Contains (wires_for Inward units ++ store_wires_in units) net → Contains (unit_wires_in units) net

-- the channel of a store, with the nets by which it is asked
abbrev pub channel_of : {core : PlainCore} {g : Setting} {s : Signals} {names : List (Option ℕ)} {unit : TransferUnit} {slice : TreeMove} {a : AccessNets} → StoreRun core g s names unit slice a → Channel
channel_of run = record { before = run.before; channel = run.channel; request = run.part.port.request; last = run.part.port.last }

-- a store runs, a table has the net by which it is done, its channel stands under the number of its node, and its DRAM and its unit with its access
pub record StoreHas (core : PlainCore) (g : Setting) (s : Signals) (ends names : List (Option ℕ)) (channels : (node : ℕ) → Channel) (unit : TransferUnit) (slice : TreeMove) (x : StoreAccess) : Type 0 where
  pub run : StoreRun core g s names unit slice x.access
  pub end : end_at ends unit.transfer.node ≡ Some unit.done
  pub channel_is : channels unit.transfer.node ≡ channel_of run
  pub dram_is : x.dram ≡ unit.transfer.dram
  pub unit_is : x.unit ≡ record { nets = record { ready = run.part.port.ready; address = run.part.port.address; word = run.part.port.word }; number = unit.transfer.number }

-- a core has its loads and its stores by these accesses, each with its own channel, and the units of stores are those that stand
pub record HasTransfers (core : PlainCore) (plan : PlainPlan) (g : Setting) (s : Signals) (env : Nets) (c : Child) (names : List (Option ℕ)) (units : List TransferUnit) (writes reads : List AccessNets) (w : Circuit core plan s core.root [] env 0 c) : Type 0 where
  pub channels : (node : ℕ) → Channel
  pub loads : HasLoads core plan g s env c channels names w writes
  pub storing : List StoreAccess
  pub reads_are : map (λ (x : StoreAccess). x.access) storing ≡ reads
  pub stores : HasStores core plan g s env c channels names w storing
  pub units_are : (r : ℕ) → nets_of (units_of r storing) ≡ stores_to r units

-- So it is where the circuit of its tree hands on its transfers, with the ends that their units have, and what was emitted of each runs.
abbrev pub TransfersAreHad : Type 0
TransfersAreHad =
    (core : PlainCore) (plan : PlainPlan) (g : Setting) (s : Signals) (env : Nets) (c : Child) (ends names : List (Option ℕ)) (units : List TransferUnit) (slices : List TreeMove) (writes reads : List AccessNets)
    (d : Draft) → UnitsStand d core units → HaveDone ends units → (w : Circuit core plan s core.root [] env 0 c) → AreMoves core plan s ends core.root [] env 0 c w slices
    → AreLoadRuns core g s names units slices writes → AreStoreRuns core g s names units slices reads → HasTransfers core plan g s env c names units writes reads w
