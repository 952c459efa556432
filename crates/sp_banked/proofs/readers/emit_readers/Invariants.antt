use Rattle.std.proofs.Common.{take, All}
use Rattle.sp_netlist.specs.Signals.{Signals}
use Rattle.sp_gates.specs.Grows.{Fills}
use Rattle.sp_gates.specs.Runs.{RunsOn}
use Rattle.sp_banked.specs.Readers.{words_of, RunsReader}
use Rattle.sp_banked.proofs.readers.emit_readers.Given as goal

abbrev pub invariant-loop-r : goal.invariant-loop-r
invariant-loop-r l = record {
  fills : Fills l.fn.builder l.builder (words_of (take l.r-index l.requests));
  runs : (s : Signals) → RunsOn s l.builder.cells → All (RunsReader s l.stores l.fn.lines l.fn.banks) (take l.r-index l.requests);
}
