use Rattle.std.proofs.Common.{◌≡◌, ℕ, [], take}
use Rattle.sp_netlist.specs.Signals.{Signals}
use Rattle.sp_gates.specs.Nets.{HasNet}
use Rattle.sp_gates.specs.Runs.{RunsOn}
use Rattle.sp_gates.specs.Grows.{Fills}
use Rattle.sp_gates.specs.Tested.{is_on}
use Rattle.sp_access.specs.Asking.{is_asked, last_place, last_word}
use Rattle.sp_access.proofs.asking.asked.Given as goal

abbrev pub invariant-loop-a : goal.invariant-loop-a
invariant-loop-a l = record {
  fills : Fills l.fn.builder l.builder [];
  net : HasNet l.builder l.net 1;
  word : (s : Signals) → RunsOn s l.builder.cells → (t : ℕ) → is_on s l.net t ≡ is_asked s t (take l.a-index l.accesses);
}
