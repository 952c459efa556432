-- What the circuits of the memories of a core do in a run.
use Rattle.std.specs.Prelude.{◌≡◌, ◌≢◌, ℕ, ◌<◌, List, length, slice_index}
use Rattle.sp_words.specs.declared.kind.Kind.TheVariants.{Sram, Fifo, ArgIn}
use Rattle.sp_netlist.specs.Signals.{Signals}
use Rattle.sp_core.specs.Declarations.{kind_of}
use Rattle.sp_core.specs.PlainCore.{PlainCore}
use Rattle.sp_plan.specs.PlainPlan.{PlainPlan}
use Rattle.sp_banked.specs.declared.part.Banked.{Banked}
use Rattle.sp_banked.specs.Runs.{RunsBanked}
use Rattle.sp_access_nets.specs.declared.access.AccessNets.{AccessNets}
use Rattle.sp_tree_handed.specs.declared.owners.OwnerNets.{OwnerNets}
use Rattle.sp_memory_nets.specs.ScalarRuns.{IsFollowed, RunsWord}
use Rattle.sp_memory_nets.specs.FifoRuns.{RunsFifo}
use Rattle.sp_memory_nets.specs.ArrayArrays.{IsArrayOf}

-- The word of a memory is on a net: that of an argument on its port, that of a register or an output in a register, in its copy 0. The words of an SRAM
-- are in banks, and on no net; so are those of a FIFO.
pub data RunsMemory (core : PlainCore) (plan : PlainPlan) (s : Signals) (accesses : List AccessNets) (owners : OwnerNets) (port m net : ℕ) : Type 0 where
  an_argument : kind_of core m ≡ ArgIn → net ≡ port → IsFollowed s accesses m port → RunsMemory core plan s accesses owners port m net
  a_register : kind_of core m ≢ ArgIn → kind_of core m ≢ Sram → kind_of core m ≢ Fifo → RunsWord core plan s accesses owners m net → RunsMemory core plan s accesses owners port m net
  an_array : kind_of core m ≡ Sram → (part : Banked) → IsArrayOf core plan accesses m part → RunsBanked s part → RunsMemory core plan s accesses owners port m net
  a_fifo : kind_of core m ≡ Fifo → (bank : ℕ) → RunsFifo core plan s accesses owners m bank → RunsMemory core plan s accesses owners port m net

-- each memory's, by its number
abbrev pub RunMemories : PlainCore → PlainPlan → Signals → List AccessNets → OwnerNets → (arguments words : List ℕ) → Type 0
RunMemories core plan s accesses owners arguments words =
    (m : ℕ) → m < length core.mems → RunsMemory core plan s accesses owners (slice_index arguments m) m (slice_index words m)
