-- How the stores of a core stand in a run: each has its part and its channel, its read is an access of its memory, and its unit is one of those
-- that write its DRAM.
use Rattle.std.specs.Prelude.{◌≡◌, ℕ, ◌+◌, ◌<◌, ◌==◌, if◌then◌else◌, List, [], ◌∷◌, length, Option, Some}
use Rattle.sp_netlist.specs.declared.parts.Child.{Child}
use Rattle.sp_netlist.specs.Signals.{Setting, Signals}
use Rattle.sp_core.specs.declared.operation.OpKind.TheVariants.{Read}
use Rattle.sp_core.specs.Declarations.{kind_of}
use Rattle.sp_core.specs.Latency.{read_latency}
use Rattle.sp_core.specs.Numbering.{spans_size}
use Rattle.sp_core.specs.PlainCore.{PlainSpan, PlainCore}
use Rattle.sp_plan.specs.PlainPlan.{PlainPlan}
use Rattle.sp_machine.specs.Transfers.{Delays}
use Rattle.sp_circuit_ops.specs.declared.ops.WordNet.{WordNet}
use Rattle.sp_node_runs.specs.BodiesGiven.{Nets}
use Rattle.sp_node_runs.specs.BodiesSpans.{SpanNets}
use Rattle.sp_tree_runs.specs.BodiesScoped.{Scoped}
use Rattle.sp_tree_circuits.specs.Circuits.{Circuit}
use Rattle.sp_tree_handed.specs.declared.moves.Direction.TheVariants.{Store}
use Rattle.sp_xfer.specs.declared.part.Store.{Store as StorePart}
use Rattle.sp_xfer.specs.declared.part.Stored.{Stored}
use Rattle.sp_transfer_runs.specs.Moving.{HasStore}
use Rattle.sp_access_nets.specs.declared.access.AccessNets.{AccessNets}
use Rattle.sp_access_nets.specs.Accesses.{copy_in}
use Rattle.sp_dram_words.specs.Units.{StoreUnit}
use Rattle.sp_stored_cores.specs.Loads.{Channel, took_by}
use Rattle.sp_stored_cores.specs.Moves.{MovesAre}

-- what stands for a store: the access by which it reads, its DRAM, and its unit
pub record StoreAccess : Type 0 where
  pub access : AccessNets
  pub dram : ℕ
  pub unit : StoreUnit

-- the units that write a DRAM, in their order
abbrev pub units_of : (dram : ℕ) → List StoreAccess → List StoreUnit
units_of r [] = []
units_of r (a ∷ storing) = if a.dram == r then a.unit ∷ units_of r storing else units_of r storing

-- an access is the read of a store, which is answered as late as its memory answers
pub record IsStoreRead (core : PlainCore) (number mem : ℕ) (copy : Option ℕ) (part : StorePart) (nets : Stored) (a : AccessNets) : Type 0 where
  pub number_is : a.number ≡ number
  pub mem_is : a.mem ≡ mem
  pub kind_is : a.kind ≡ Read
  pub enable : a.enable ≡ nets.read
  pub operands : a.operands.items ≡ nets.indices.items
  pub copied : a.copy ≡ copy
  pub word : WordNet
  pub answer : a.answer ≡ Some word
  pub found : word.net ≡ part.found
  pub after : word.after ≡ read_latency (kind_of core mem)

-- a store has its circuit and its channel, its read names the copy that stands under its number, and its unit has its nets
pub record StoreStands (core : PlainCore) (g : Setting) (s : Signals) (channels : (node : ℕ) → Channel) (bound : ℕ) (copies : List (Option ℕ)) (r m : ℕ) (spans : List PlainSpan) (k n : ℕ) (qs : List Scoped) (c : Child) (nets : List SpanNets) (a : StoreAccess) : Type 0 where
  pub few : r < length core.ports.drams
  pub chip : m < length core.mems
  pub has : HasStore core g s bound (took_by g s channels bound k) r nets c
  pub read : IsStoreRead core (n + spans_size spans) m (copy_in copies (n + spans_size spans)) has.part has.nets a.access
  pub dram_is : a.dram ≡ r
  pub unit_is : a.unit ≡ record { nets = record { ready = has.part.port.ready; address = has.part.port.address; word = has.part.port.word }; number = n + spans_size spans }

-- so does each store of a core, in the order of the tree, whatever the delays and the runs
abbrev pub HasStores : (core : PlainCore) (plan : PlainPlan) (g : Setting) (s : Signals) (env : Nets) (c : Child) (channels : (node : ℕ) → Channel) (copies : List (Option ℕ)) → Circuit core plan s core.root [] env 0 c → List StoreAccess → Type 0
HasStores core plan g s env c channels copies w storing =
    (bound : ℕ) (delays : Delays) (qs : List Scoped) → MovesAre Store core plan delays s (StoreStands core g s channels bound copies) core.root [] env 0 0 qs c w storing
