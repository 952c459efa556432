-- The words that FIFOs give over the timeline of a run, as a statement.
use Rattle.std.specs.Prelude.{◌≡◌, ℕ, suc, ◌<◌, List, length, All, Some}
use Rattle.std.specs.List.{Contains}
use Rattle.sp_words.specs.declared.kind.Kind.TheVariants.{Fifo}
use Rattle.sp_words.specs.Ports.{PlainInput}
use Rattle.sp_netlist.specs.Draft.{Draft}
use Rattle.sp_netlist.specs.Signals.{Signals}
use Rattle.sp_core.specs.declared.operation.OpKind.TheVariants.{Deq}
use Rattle.sp_core.specs.Declarations.{kind_of}
use Rattle.sp_core.specs.PlainCore.{PlainCore}
use Rattle.sp_plan.specs.PlainPlan.{PlainPlan}
use Rattle.sp_machine.specs.Stamps.{Stamped}
use Rattle.sp_overlap.specs.Whole.{IsTimed}
use Rattle.sp_contents.specs.Found.{first_contents}
use Rattle.sp_circuit_ops.specs.declared.ops.WordNet.{WordNet}
use Rattle.sp_memory_words.specs.Answers.{IsAnswered}
use Rattle.sp_memory_words.specs.Moments.{HappensWell}
use Rattle.sp_access_nets.specs.declared.access.AccessNets.{AccessNets}
use Rattle.sp_tree_handed.specs.declared.owners.OwnerNets.{OwnerNets}
use Rattle.sp_tree_accesses.specs.Queued.{QueuedStands}
use Rattle.sp_stored_cores.specs.ScalarInTime.{MemoriesInTime}
use Rattle.sp_memory_nets.specs.FifoRuns.{RunsFifo}

module _ (core : PlainCore) (plan : PlainPlan) where
  -- In a core without `Stream` blocks each take from a FIFO is answered with its word, up to the cycle after the one up to which accesses
  -- and owners do what the timeline has.
  abbrev pub FifosAnswer : Type 0
  FifosAnswer =
      IsTimed core.root → (s : Signals) (events : List Stamped) (last : ℕ) (accesses : List AccessNets) (owners : OwnerNets) (input : PlainInput) → MemoriesInTime core s events last accesses owners
      → HappensWell core plan events (first_contents core input) → (d : Draft) → All (QueuedStands d core) accesses → (m bank : ℕ) → m < length core.mems → kind_of core m ≡ Fifo → RunsFifo core plan s accesses owners m bank
      → (a : AccessNets) (w : WordNet) → Contains accesses a → a.mem ≡ m → a.kind ≡ Deq → a.answer ≡ Some w → IsAnswered s events (suc last) a.number Deq w.after w.net
