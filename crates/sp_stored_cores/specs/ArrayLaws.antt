-- The words of SRAMs, and of all memories of a core of registers, arguments, outputs, SRAMs and FIFOs, over the timeline of a run, as
-- statements.
use Rattle.std.specs.Prelude.{◌≡◌, ℕ, suc, ◌<◌, ◌≤◌, List, ◌++◌, length, slice_index, All, Some}
use Rattle.std.specs.List.{Contains}
use Rattle.sp_words.specs.declared.kind.Kind.TheVariants.{Sram}
use Rattle.sp_words.specs.Ports.{PlainInput}
use Rattle.sp_netlist.specs.Draft.{Draft}
use Rattle.sp_netlist.specs.Signals.{Signals}
use Rattle.sp_core.specs.declared.operation.OpKind.TheVariants.{Read}
use Rattle.sp_core.specs.Declarations.{kind_of}
use Rattle.sp_core.specs.History.{History}
use Rattle.sp_core.specs.PlainCore.{PlainCore}
use Rattle.sp_core.specs.Store.{Store}
use Rattle.sp_plan.specs.PlainPlan.{PlainPlan}
use Rattle.sp_machine.specs.Stamps.{Stamped}
use Rattle.sp_machine.specs.Timeline.{core_timed}
use Rattle.sp_machine.specs.Transfers.{Delays}
use Rattle.sp_overlap.specs.Whole.{IsTimed}
use Rattle.sp_contents.specs.Found.{first_contents}
use Rattle.sp_banked.specs.declared.part.Banked.{Banked}
use Rattle.sp_banked.specs.Runs.{RunsBanked}
use Rattle.sp_circuit_ops.specs.declared.ops.WordNet.{WordNet}
use Rattle.sp_memory_words.specs.Answers.{IsAnswered}
use Rattle.sp_memory_words.specs.Moments.{HappensWell}
use Rattle.sp_memory_words.specs.Registers.{IsRegister, copy_place, standing, HasWord}
use Rattle.sp_bank_words.specs.Accesses.{reads_in}
use Rattle.sp_bank_runs.specs.Laws.{GoesWell}
use Rattle.sp_access_nets.specs.declared.access.AccessNets.{AccessNets}
use Rattle.sp_tree_handed.specs.declared.owners.OwnerNets.{OwnerNets}
use Rattle.sp_tree_accesses.specs.Queued.{QueuedStands}
use Rattle.sp_stored_cores.specs.ScalarInTime.{MemoriesInTime, ArgumentsGiven, ArgumentsAreLater}
use Rattle.sp_memory_nets.specs.ArrayArrays.{IsArrayOf}
use Rattle.sp_memory_nets.specs.ArrayKinds.{AreEmitted}
use Rattle.sp_memory_nets.specs.ArrayRuns.{RunMemories}
use Rattle.sp_stored_cores.specs.ArrayLoads.{LoadsInTime}
use Rattle.sp_stored_cores.specs.ArrayStores.{StoresReadInTime}

-- up to the cycle after, each read of a memory is answered: those of operations, and those of stores at the events that read the memory
pub record ReadsAnswered (s : Signals) (events : List Stamped) (last : ℕ) (accesses storing : List AccessNets) (m : ℕ) : Type 0 where
  pub operations : (a : AccessNets) (w : WordNet) → Contains accesses a → a.mem ≡ m → a.kind ≡ Read → a.answer ≡ Some w → IsAnswered s events (suc last) a.number Read w.after w.net
  pub stores : (a : AccessNets) (w : WordNet) → Contains storing a → a.mem ≡ m → a.answer ≡ Some w → IsAnswered s (reads_in m events) (suc last) a.number Read w.after w.net

-- so is each access that is to be answered, of any memory
pub record AllAnswered (s : Signals) (events : List Stamped) (last : ℕ) (accesses storing : List AccessNets) : Type 0 where
  pub operations : (a : AccessNets) (w : WordNet) → Contains accesses a → a.answer ≡ Some w → IsAnswered s events (suc last) a.number a.kind w.after w.net
  pub stores : (a : AccessNets) (w : WordNet) → Contains storing a → a.answer ≡ Some w → IsAnswered s (reads_in a.mem events) (suc last) a.number Read w.after w.net

module _ (core : PlainCore) (plan : PlainPlan) where
  -- up to the cycle after, the net of a register or an output has the word that stands there
  abbrev pub MemoriesHold : Type 0
  MemoriesHold =
      (s : Signals) (events : List Stamped) (last : ℕ) (accesses loading storing : List AccessNets) (owners : OwnerNets) (input : PlainInput) → MemoriesInTime core s events last accesses owners → LoadsInTime core s events last loading → StoresReadInTime core s events last storing
      → HappensWell core plan events (first_contents core input) → (arguments words : List ℕ) → RunMemories core plan s (accesses ++ loading ++ storing) owners arguments words → (m : ℕ) → m < length core.mems → IsRegister (kind_of core m)
      → (t : ℕ) → t ≤ suc last → HasWord core (standing core events (first_contents core input) t (copy_place m 0)) (s.net t (slice_index words m))

module _ (core : PlainCore) (plan : PlainPlan) (delays : Delays) where
  -- In a run that goes well each read of an SRAM is answered with its word up to the cycle after the one up to which accesses, the writes of
  -- loads, the reads of stores and owners do what the timeline has. The circuit is that of all these accesses, in this order.
  abbrev pub ArraysAnswer : Type 0
  ArraysAnswer =
      (input : PlainInput) (h : History) (end : Store) → GoesWell core plan delays input h end → HappensWell core plan (core_timed core plan delays h).events (first_contents core input)
      → (s : Signals) (last : ℕ) (accesses loading storing : List AccessNets) (owners : OwnerNets) → MemoriesInTime core s (core_timed core plan delays h).events last accesses owners → LoadsInTime core s (core_timed core plan delays h).events last loading
      → StoresReadInTime core s (core_timed core plan delays h).events last storing
      → (m : ℕ) (part : Banked) → kind_of core m ≡ Sram → IsArrayOf core plan (accesses ++ loading ++ storing) m part → RunsBanked s part
      → ReadsAnswered s (core_timed core plan delays h).events last accesses storing m

  -- so is each read of any memory, and each take from a FIFO, where each memory has its circuit and the core no `Stream` block
  abbrev pub MemoriesAnswer : Type 0
  MemoriesAnswer =
      (input : PlainInput) (h : History) (end : Store) → GoesWell core plan delays input h end → HappensWell core plan (core_timed core plan delays h).events (first_contents core input) → IsTimed core.root
      → (s : Signals) (last : ℕ) (accesses loading storing : List AccessNets) (owners : OwnerNets) → MemoriesInTime core s (core_timed core plan delays h).events last accesses owners → LoadsInTime core s (core_timed core plan delays h).events last loading
      → StoresReadInTime core s (core_timed core plan delays h).events last storing
      → (d : Draft) → All (QueuedStands d core) accesses → AreEmitted core → (arguments words : List ℕ) → RunMemories core plan s (accesses ++ loading ++ storing) owners arguments words → ArgumentsGiven core input s arguments → ArgumentsAreLater core (core_timed core plan delays h).events accesses
      → AllAnswered s (core_timed core plan delays h).events last accesses storing
