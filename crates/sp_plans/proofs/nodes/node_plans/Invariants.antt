use Rattle.std.proofs.Common.{◌≡◌, ℕ, ◌<◌, length, map, slice_index_or}
use Rattle.sp_core.specs.CoreParts.{plain_core}
use Rattle.sp_plan.specs.Plain.{plain_node_plan}
use Rattle.sp_plan.specs.PlainPlan.{other_plan}
use Rattle.sp_plans.specs.Planned.{IsBestPlan}
use Rattle.sp_plans.proofs.nodes.node_plans.Given as goal

-- each node so far has its best plan
abbrev pub invariant-loop-k : goal.invariant-loop-k
invariant-loop-k l =
    (length l.nodes.items ≡ l.k)
    × ((j : ℕ) → j < l.k → IsBestPlan (plain_core l.core) l.meets.pairs.items l.schemes j (slice_index_or (map plain_node_plan l.nodes.items) j other_plan))
