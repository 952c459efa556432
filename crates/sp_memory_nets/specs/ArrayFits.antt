-- When the circuits of the memories of a core can be emitted.
use Rattle.std.specs.Prelude.{◌≡◌, ◌⊎◌, ℕ, ◌<◌, List, length, slice_index, All, Contains, Some}
use Rattle.sp_words.specs.declared.kind.Kind.TheVariants.{Fifo, ArgIn}
use Rattle.sp_words.specs.Types.{width_of}
use Rattle.sp_netlist.specs.Draft.{Draft}
use Rattle.sp_gates.specs.Nets.{HasNet, IsOpen}
use Rattle.sp_core.specs.declared.operation.OpKind.TheVariants.{Read, Deq}
use Rattle.sp_core.specs.Declarations.{mem, kind_of}
use Rattle.sp_core.specs.PlainCore.{PlainCore}
use Rattle.sp_plan.specs.PlainPlan.{PlainPlan}
use Rattle.sp_mem.specs.Fits.{CopyFits}
use Rattle.sp_taps.specs.declared.store.Store.{Store}
use Rattle.sp_op_nets.specs.Reserved.{Rise}
use Rattle.sp_circuit_ops.specs.declared.ops.WordNet.{WordNet}
use Rattle.sp_access_nets.specs.declared.access.AccessNets.{AccessNets}
use Rattle.sp_access_nets.specs.Laws.{answer_nets}
use Rattle.sp_tree_handed.specs.declared.owners.OwnerNets.{OwnerNets}
use Rattle.sp_tree_handed.specs.Standing.{AccessStands, OwnersStand}
use Rattle.sp_tree_accesses.specs.Queued.{QueuedStands}
use Rattle.sp_memory_nets.specs.ScalarFits.{OwnersNameCopies}
use Rattle.sp_memory_nets.specs.ScalarLists.{answers_to}
use Rattle.sp_memory_nets.specs.declared.array_array.Array.{Array}
use Rattle.sp_memory_nets.specs.ArrayBanks.{HasArrayPlan, ArrayStands, ArraysStand}
use Rattle.sp_memory_nets.specs.ArrayKinds.{IsEmitted, AreEmitted}

-- what is asked of accesses: they have their nets, the net of a copy is 32 bits wide, and what is answered reads, or takes from a FIFO
pub record AccessesFit (d : Draft) (core : PlainCore) (accesses : List AccessNets) : Type 0 where
  pub stand : All (AccessStands d core) accesses
  pub copied : All (λ (a : AccessNets). CopyFits d a.copy) accesses
  pub queued : All (QueuedStands d core) accesses
  pub reads : (a : AccessNets) (word : WordNet) → Contains accesses a → a.answer ≡ Some word → (a.kind ≡ Read) ⊎ ((a.kind ≡ Deq) × (kind_of core a.mem ≡ Fifo))

-- of one memory, whose banks begin with a number; an argument has the net of its port
pub record MemoryFits (d : Draft) (core : PlainCore) (plan : PlainPlan) (accesses : List AccessNets) (owners : OwnerNets) (port bank : ℕ) (stores : List Store) (start m : ℕ) : Type 0 where
  pub within : m < length core.mems
  pub stored : IsEmitted (kind_of core m)
  pub planned : HasArrayPlan core plan
  pub starts : HasNet d start 1
  pub ported : kind_of core m ≡ ArgIn → HasNet d port (width_of (mem core m).ty)
  pub accesses_fit : AccessesFit d core accesses
  pub owners_stand : OwnersStand d core owners
  pub owners_copied : OwnersNameCopies d owners
  pub banks : ArrayStands d core plan m bank stores
  -- its readers wait for their words, each on a net of its own
  pub awaiting : (net : ℕ) → Contains (answers_to m accesses) net → IsOpen d net
  pub rise : Rise 0 (answers_to m accesses)

-- of all memories of a core, which are registers, arguments, outputs, SRAMs and FIFOs; `arguments` has the nets of the arguments' ports, by the
-- memory's number
pub record MemoriesFit (d : Draft) (core : PlainCore) (plan : PlainPlan) (accesses : List AccessNets) (owners : OwnerNets) (arguments : List ℕ) (arrays : List Array) (start : ℕ) : Type 0 where
  pub stored : AreEmitted core
  pub planned : HasArrayPlan core plan
  pub starts : HasNet d start 1
  pub each : length arguments ≡ length core.mems
  pub ports : (m : ℕ) → m < length core.mems → kind_of core m ≡ ArgIn → HasNet d (slice_index arguments m) (width_of (mem core m).ty)
  pub accesses_fit : AccessesFit d core accesses
  pub within : All (λ (a : AccessNets). a.mem < length core.mems) accesses
  pub owners_stand : OwnersStand d core owners
  pub owners_copied : OwnersNameCopies d owners
  pub arrays_stand : ArraysStand d core plan arrays
  -- accesses wait for their answers, each on a net of its own
  pub awaiting : (net : ℕ) → Contains (answer_nets accesses) net → IsOpen d net
  pub rise : Rise 0 (answer_nets accesses)
