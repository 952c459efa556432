use Rattle.std.proofs.Common.{ℕ, []}
use Rattle.sp_netlist.specs.Signals.{Signals}
use Rattle.sp_gates.specs.Grows.{Fills}
use Rattle.sp_gates.specs.Nets.{HasNet}
use Rattle.sp_gates.specs.Runs.{RunsOn}
use Rattle.sp_banked.specs.Readers.{IsFound}
use Rattle.sp_banked.proofs.readers.found_of.Given as goal

abbrev pub invariant-loop-i : goal.invariant-loop-i
invariant-loop-i l = record {
  fills : Fills l.fn.builder l.builder [];
  net : HasNet l.builder l.word l.fn.width;
  word : (s : Signals) → RunsOn s l.builder.cells → (t : ℕ) → IsFound s t l.fn.copy l.fn.bank l.stores l.fn.from l.i l.fn.banks l.word;
}
