use Rattle.std.proofs.Common.{ℕ, ◌<◌, ◌^◌}
use Rattle.sp_plan.specs.Plain.{plain_plan}
use Rattle.sp_plan.specs.PlainPlan.{node_plan}
use Rattle.sp_machine.specs.Timeline.{latency_of}
use Rattle.sp_build.proofs.latencies.latencies_are_short.Given as goal

abbrev pub invariant-loop-index : goal.invariant-loop-index
invariant-loop-index l = (k : ℕ) → k < l.index → latency_of (node_plan (plain_plan l.fn.plan) k) < 2 ^ 32
