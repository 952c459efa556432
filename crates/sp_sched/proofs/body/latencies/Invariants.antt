use Rattle.std.proofs.Common.{◌≡◌, ◌≤◌, map, take}
use Rattle.std.specs.List.{All}
use Rattle.sp_core.specs.CoreParts.{plain_core}
use Rattle.sp_core.specs.Plain.{plain_op}
use Rattle.sp_plan.specs.Bodies.{latencies}
use Rattle.sp_sched.proofs.body.latencies.Given as goal

abbrev pub invariant-loop-op : goal.invariant-loop-op
invariant-loop-op l = (l.cycles.items ≡ latencies (plain_core l.core) (map plain_op (take l.op-index l.ops))) × All (λ x. x ≤ 4) l.cycles.items
