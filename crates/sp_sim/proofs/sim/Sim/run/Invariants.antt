use Rattle.std.proofs.Common.{◌≡◌, None}
use Rattle.sp_sim.proofs.Runs.{progress}
use Rattle.sp_sim.proofs.sim.Sim.run.Given as goal

abbrev pub invariant-loop-cycle : goal.invariant-loop-cycle
invariant-loop-cycle l = l.self ≡ progress l.initial.self.setting l._cycle None
