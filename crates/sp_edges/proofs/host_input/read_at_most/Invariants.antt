use Rattle.sp_edges.proofs.HostRead.{HasRead}
use Rattle.sp_edges.proofs.host_input.read_at_most.Given as goal

abbrev pub invariant-loop : goal.invariant-loop
invariant-loop g l = HasRead l.most l.initial.into.items l.into.items l.initial.faults l.faults
