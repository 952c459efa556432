-- Plans by which no inner body takes longer than its operations one after the other. A valid plan may: its times are only as
-- late as its orders ask, or later.
use Rattle.std.specs.Prelude.{max, nat_le, Bool, true, false, ◌&&◌, IsTrue, List}
use Rattle.sp_core.specs.Latency.{latency_of_all}
use Rattle.sp_core.specs.PlainCore.{PlainOp, inner, PlainCore}
use Rattle.sp_plan.specs.Nodes.{NodeRule, holds_of_each}
use Rattle.sp_plan.specs.PlainPlan.{PlainNodePlan, inner_plan, PlainPlan, node_plan}

-- nor are its groups further apart than it takes
abbrev pub is_brisk : PlainCore → List PlainOp → PlainNodePlan → Bool
is_brisk core ops (inner_plan times ii latency serial) = nat_le latency (latency_of_all core ops) && nat_le ii (max 1 latency)
is_brisk core ops _ = true

abbrev pub brisk_rule : PlainCore → PlainPlan → NodeRule
brisk_rule core plan k n streamed (inner counters owned ops comb) = is_brisk core ops (node_plan plan k)
brisk_rule core plan k n streamed node = true

-- so it is at each inner body of a core
abbrev pub IsBriskPlan : PlainCore → PlainPlan → Type 0
IsBriskPlan core plan = IsTrue (holds_of_each (brisk_rule core plan) 0 0 false core.root)
