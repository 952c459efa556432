-- A plan by its lists.
use Rattle.std.specs.Prelude.{List, map}
use Rattle.sp_plan.specs.declared.plan.MemPlan.{MemPlan}
use Rattle.sp_plan.specs.declared.plan.NodePlan.{NodePlan}
use Rattle.sp_plan.specs.Plain.{plain_mem_plan, plain_node_plan}
use Rattle.sp_plan.specs.PlainPlan.{PlainPlan}

abbrev pub plan_of : List MemPlan → List NodePlan → PlainPlan
plan_of mems nodes = record { mems = map plain_mem_plan mems; nodes = map plain_node_plan nodes }
