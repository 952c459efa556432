-- The plain value of each part of a plan as it is declared.
use Rattle.std.specs.Prelude.{List, Option, map}
use Rattle.sp_bank.specs.Banking.{Banking}
use Rattle.sp_plan.specs.declared.plan.MemPlan.{MemPlan}
use Rattle.sp_plan.specs.declared.plan.NodePlan.{NodePlan}
use Rattle.sp_plan.specs.declared.plan.NodePlan.TheVariants.{Inner, Outer, Other}
use Rattle.sp_plan.specs.declared.plan.Plan.{Plan}
use Rattle.sp_plan.specs.PlainPlan.{PlainMemPlan, PlainNodePlan, inner_plan, outer_plan, other_plan, PlainPlan}

abbrev pub plain_mem_plan : MemPlan → PlainMemPlan
plain_mem_plan m = record { scheme = m.scheme; depth = m.depth; duplicates = m.duplicates }

abbrev pub plain_node_plan : NodePlan → PlainNodePlan
plain_node_plan (Inner times ii latency serial) = inner_plan times.items ii latency serial
plain_node_plan (Outer slots chains) = outer_plan slots.items chains.items
plain_node_plan Other = other_plan

abbrev pub plain_plan : Plan → PlainPlan
plain_plan p = record { mems = map plain_mem_plan p.mems.items; nodes = map plain_node_plan p.nodes.items }

-- the schemes of memories, by number
abbrev pub schemes_in : List MemPlan → List (Option Banking)
schemes_in mems = map (λ (m : MemPlan). m.scheme) mems
