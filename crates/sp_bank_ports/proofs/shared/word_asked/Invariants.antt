use Rattle.std.proofs.Common.{◌≡◌, ℕ, [], take}
use Rattle.sp_netlist.specs.Signals.{Signals}
use Rattle.sp_gates.specs.Nets.{HasNet}
use Rattle.sp_gates.specs.Runs.{RunsOn}
use Rattle.sp_gates.specs.Grows.{Fills}
use Rattle.sp_access.specs.Asking.{last_word}
use Rattle.sp_bank_ports.proofs.shared.word_asked.Given as goal

abbrev pub invariant-loop-i : goal.invariant-loop-i
invariant-loop-i l = record {
  fills : Fills l.fn.builder l.builder [];
  net : HasNet l.builder l.net l.fn.width;
  word : (s : Signals) → RunsOn s l.builder.cells → (t : ℕ) → s.net t l.net ≡ last_word s t (take l.i l.accesses) (take l.i l.words) 0;
}
