use Rattle.std.proofs.Common.{◌≡◌, ℕ, [], not}
use Rattle.sp_gates.specs.Grows.{Fills}
use Rattle.sp_gates.specs.Nets.{HasNet}
use Rattle.sp_gates.specs.Runs.{RunsOn}
use Rattle.sp_gates.specs.Tested.{is_on}
use Rattle.sp_netlist.specs.Signals.{Signals}
use Rattle.sp_pipe.specs.Issues.{due}
use Rattle.sp_pipe.proofs.issue.due.Given as goal

abbrev pub invariant-loop-cycle : goal.invariant-loop-cycle
invariant-loop-cycle l = record {
  fills : Fills l.fn.builder l.builder [];
  idle_net : HasNet l.builder l.idle 1;
  idle_on : (s : Signals) → RunsOn s l.builder.cells → (t : ℕ) → is_on s l.idle t ≡ not (is_on s l.fn.start t);
  net : HasNet l.builder l.due 1;
  is_due : (s : Signals) → RunsOn s l.builder.cells → (t : ℕ) → is_on s l.due t ≡ due (is_on s l.fn.start) (is_on s l.fn.issue) l._cycle t;
}
