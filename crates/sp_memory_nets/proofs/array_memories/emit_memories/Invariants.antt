use Rattle.std.proofs.Common.{◌≡◌, ◌≢◌, ℕ, ◌<◌, length, slice_index}
use Rattle.sp_words.specs.declared.kind.Kind.TheVariants.{Sram, Fifo}
use Rattle.sp_words.specs.Types.{width_of}
use Rattle.sp_netlist.specs.Signals.{Signals}
use Rattle.sp_gates.specs.Grows.{Fills}
use Rattle.sp_gates.specs.Nets.{HasNet}
use Rattle.sp_gates.specs.Runs.{RunsOn}
use Rattle.sp_core.specs.CoreParts.{plain_core}
use Rattle.sp_core.specs.Declarations.{mem, kind_of}
use Rattle.sp_plan.specs.Plain.{plain_plan}
use Rattle.sp_memory_nets.specs.ArrayRuns.{RunsMemory}
use Rattle.sp_memory_nets.proofs.ArrayCollecting.{driven_up_to}
use Rattle.sp_memory_nets.proofs.array_memories.emit_memories.Given as goal

abbrev pub invariant-loop-m : goal.invariant-loop-m
invariant-loop-m l = record {
  fills : Fills l.fn.builder l.builder (driven_up_to l.m l.accesses l.arrays);
  each : length l.words.items ≡ l.m;
  nets : (k : ℕ) → k < l.m → kind_of (plain_core l.core) k ≢ Sram → kind_of (plain_core l.core) k ≢ Fifo → HasNet l.builder (slice_index l.words.items k) (width_of (mem (plain_core l.core) k).ty);
  runs : (s : Signals) → RunsOn s l.builder.cells → (k : ℕ) → k < l.m → RunsMemory (plain_core l.core) (plain_plan l.plan) s l.accesses l.owners (slice_index l.arguments k) k (slice_index l.words.items k);
}
