use Rattle.std.proofs.Common.{◌≡◌, ℕ, [], ◌+◌, ◌<◌}
use Rattle.sp_netlist.specs.Signals.{Signals}
use Rattle.sp_gates.specs.Nets.{HasNet}
use Rattle.sp_gates.specs.Runs.{RunsOn}
use Rattle.sp_gates.specs.Grows.{Fills}
use Rattle.sp_gates.proofs.gates.delay.Given as goal

abbrev pub invariant-loop-step : goal.invariant-loop-step
invariant-loop-step l = record {
  fills : Fills l.fn.builder l.builder [];
  net : HasNet l.builder l.late l.fn.width;
  later : (s : Signals) → RunsOn s l.builder.cells → (t : ℕ) → s.net (t + l._step) l.late ≡ s.net t l.fn.net;
  before : (s : Signals) → RunsOn s l.builder.cells → (t : ℕ) → t < l._step → s.net t l.late ≡ 0;
}
