use Rattle.std.proofs.Common.{take, All}
use Rattle.sp_netlist.specs.Signals.{Signals}
use Rattle.sp_gates.specs.Runs.{RunsOn}
use Rattle.sp_gates.specs.Grows.{Fills}
use Rattle.sp_mem.specs.Fits.{words_of}
use Rattle.sp_memory_nets.specs.ScalarRuns.{Follows}
use Rattle.sp_memory_nets.proofs.scalar_followers.emit_followers.Given as goal

abbrev pub invariant-loop-r : goal.invariant-loop-r
invariant-loop-r l = record {
  fills : Fills l.fn.builder l.builder (words_of (take l.r-index l.reads));
  runs : (s : Signals) → RunsOn s l.builder.cells → All (Follows s l.port) (take l.r-index l.reads);
}
