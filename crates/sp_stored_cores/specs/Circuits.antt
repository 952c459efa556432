-- The circuit of a core all of whose memories are registers, arguments, outputs, SRAMs and FIFOs.
use Rattle.std.specs.Prelude.{◌≡◌, ◌⊎◌, ℕ, suc, ◌<◌, true, false, List, [], ◌++◌, map, length, All, Option, Some}
use Rattle.std.specs.List.{Contains}
use Rattle.sp_words.specs.declared.kind.Kind.TheVariants.{Fifo}
use Rattle.sp_netlist.specs.declared.parts.Child.{Child}
use Rattle.sp_netlist.specs.Draft.{Draft}
use Rattle.sp_netlist.specs.Signals.{Setting, Signals}
use Rattle.sp_gates.specs.Tested.{is_on}
use Rattle.sp_core.specs.declared.operation.OpKind.TheVariants.{Read, Deq}
use Rattle.sp_core.specs.Declarations.{kind_of}
use Rattle.sp_core.specs.Invariant.{IsCore}
use Rattle.sp_core.specs.PlainCore.{PlainCore}
use Rattle.sp_plan.specs.PlainPlan.{PlainPlan}
use Rattle.sp_overlap.specs.Whole.{IsTimed}
use Rattle.sp_circuit_ops.specs.declared.ops.WordNet.{WordNet}
use Rattle.sp_op_nets.specs.declared.acted.ActedList.{ActedList}
use Rattle.sp_op_nets.specs.Table.{nets_at}
use Rattle.sp_access_nets.specs.declared.access.AccessNets.{AccessNets}
use Rattle.sp_access_nets.specs.Accesses.{copy_in}
use Rattle.sp_tree_circuits.specs.Circuits.{Circuit}
use Rattle.sp_tree_events.specs.CopiesStanding.{no_numbers}
use Rattle.sp_tree_handed.specs.declared.owners.OwnerNets.{OwnerNets}
use Rattle.sp_tree_handed.specs.Standing.{AccessStands, BoundsReadArguments}
use Rattle.sp_tree_copies.specs.Naming.{AreNamed}
use Rattle.sp_tree_nets.specs.Handed.{AreHanded}
use Rattle.sp_tree_accesses.specs.Laws.{AreTreeAccesses}
use Rattle.sp_tree_accesses.specs.Queued.{QueuedStands}
use Rattle.sp_memory_nets.specs.ArrayKinds.{AreEmitted}
use Rattle.sp_memory_nets.specs.ArrayRuns.{RunMemories}
use Rattle.sp_stored_cores.specs.Loads.{Channel, HasLoads}
use Rattle.sp_stored_cores.specs.Quiet.{HasNoCounters}
use Rattle.sp_stored_cores.specs.Stores.{StoreAccess, HasStores}

-- a core without `Stream` blocks and sparse transfers, whose root reads no bounds, and whose bounds read arguments alone
pub record IsStoredCore (core : PlainCore) : Type 0 where
  pub right : IsCore core
  pub timed : IsTimed core.root
  pub uncounted : HasNoCounters core.root
  pub stored : AreEmitted core
  pub arguments : BoundsReadArguments core core.root

-- In a run: the circuit of the tree, the nets of the numbers of copies, by the numbers of operations and for owners, the circuits of its
-- loads and its stores, each with a channel and an access of its memory, and the circuits of the memories that all these ask, by the nets of the
-- arguments. By the memory's number `words` has the net of its word in copy 0, where it is one word.
pub record StoredCircuit (core : PlainCore) (plan : PlainPlan) (g : Setting) (s : Signals) (c : Child) (arguments words : List ℕ) : Type 0 where
  pub circuit : Circuit core plan s core.root [] (nets_at []) 0 c
  pub acted : List ActedList
  pub copies : List (Option ℕ)
  pub owners : OwnerNets
  pub accesses : List AccessNets
  pub handed : AreHanded core plan s core.root [] (nets_at []) 0 0 c circuit acted
  pub named : AreNamed core plan s core.root [] (nets_at []) 0 c circuit no_numbers copies owners.renewed.items owners.kept.items
  pub accesses_are : AreTreeAccesses core (copy_in copies) acted accesses
  pub draft : Draft
  pub stand : All (AccessStands draft core) accesses
  pub within : All (λ (a : AccessNets). a.mem < length core.mems) accesses
  pub queued : All (QueuedStands draft core) accesses
  pub asked : (a : AccessNets) (w : WordNet) → Contains accesses a → a.answer ≡ Some w → (a.kind ≡ Read) ⊎ ((a.kind ≡ Deq) × (kind_of core a.mem ≡ Fifo))
  pub channels : (node : ℕ) → Channel
  pub loading : List AccessNets
  pub loads : HasLoads core plan g s (nets_at []) c channels copies circuit loading
  pub storing : List StoreAccess
  pub stores : HasStores core plan g s (nets_at []) c channels copies circuit storing
  pub memories : RunMemories core plan s (accesses ++ loading ++ map (λ (a : StoreAccess). a.access) storing) owners arguments words

-- a part is started in cycle 0 and in no other
pub record StartsOnce (s : Signals) (start : ℕ) : Type 0 where
  pub begins : is_on s start 0 ≡ true
  pub once : (t : ℕ) → is_on s start (suc t) ≡ false
