use Rattle.std.proofs.Common.{◌≡◌, ℕ, [], slice_index}
use Rattle.sp_netlist.specs.Signals.{Signals}
use Rattle.sp_core.specs.Scope.{is_some_up_to}
use Rattle.sp_gates.specs.Grows.{Fills}
use Rattle.sp_gates.specs.Nets.{HasNet}
use Rattle.sp_gates.specs.Runs.{RunsOn}
use Rattle.sp_gates.specs.Tested.{is_on}
use Rattle.sp_lane_nets.proofs.live.some_live.Given as goal

abbrev pub invariant-loop-i : goal.invariant-loop-i
invariant-loop-i l = record {
  fills : Fills l.fn.builder l.builder [];
  net : HasNet l.builder l.net 1;
  on : (s : Signals) → RunsOn s l.builder.cells → (t : ℕ) → is_on s l.net t ≡ is_some_up_to (λ k. is_on s (slice_index l.masks k) t) l.first l.i;
}
