use Rattle.std.proofs.Common.{◌≡◌, map, replicate}
use Rattle.sp_netlist.specs.Signals.{idle}
use Rattle.sp_sim.specs.Phases.{plain_phase}
use Rattle.sp_sim.proofs.load.first_phases.Given as goal

abbrev pub invariant-loop-channel : goal.invariant-loop-channel
invariant-loop-channel l = map plain_phase l.phases.items ≡ replicate l._channel idle
