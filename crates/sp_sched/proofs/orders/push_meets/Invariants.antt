use Rattle.std.proofs.Common.{◌≡◌, ◌++◌, map, take}
use Rattle.std.specs.List.{flat_map}
use Rattle.sp_core.specs.CoreParts.{plain_core}
use Rattle.sp_core.specs.Plain.{plain_op}
use Rattle.sp_plan.specs.Orders.{meet_orders}
use Rattle.sp_sched.proofs.orders.push_meets.Given as goal

abbrev pub invariant-loop-meet : goal.invariant-loop-meet
invariant-loop-meet l = l.into.items ≡ l.initial.into.items ++ flat_map (meet_orders (plain_core l.core) (map plain_op l.ops) l.number) (take l.meet-index l.meets)
