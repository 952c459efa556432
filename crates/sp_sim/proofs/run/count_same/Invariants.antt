use Rattle.std.proofs.Common.{◌≡◌, ◌-◌, ◌<◌, ◌≤◌, length, take, All}
use Rattle.sp_sim.specs.declared.step.Step.{Step}
use Rattle.sp_sim.proofs.run.count_same.Given as goal

abbrev pub invariant-loop-count : goal.invariant-loop-count
invariant-loop-count l = (0 < l.count) × (l.count ≤ length l.steps) × All (λ (s : Step). s.task ≡ l.task) (take l.count l.steps)

abbrev pub decreases-loop-count : goal.decreases-loop-count
decreases-loop-count l = length l.steps - l.count
