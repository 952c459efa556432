use Rattle.std.proofs.Common.{◌≡◌, length, map}
use Rattle.sp_core.specs.CoreParts.{plain_core}
use Rattle.sp_plan.specs.Plain.{plain_mem_plan, plain_node_plan}
use Rattle.sp_plans.specs.Planned.{mems_by}
use Rattle.sp_plans.proofs.mems.mem_plans.Given as goal

-- the memories so far have these schemes
abbrev pub invariant-loop-scheme : goal.invariant-loop-scheme
invariant-loop-scheme l = (l.m ≡ length l.yielded) × (map plain_mem_plan l.mems.items ≡ mems_by (plain_core l.core) (map plain_node_plan l.nodes) 0 l.yielded)
