use Rattle.std.proofs.Common.{◌≤◌}
use Rattle.sp_edges.proofs.host_output.write_whole.Given as goal

abbrev pub invariant-loop : goal.invariant-loop
invariant-loop g l = l.initial.faults ≤ l.faults
