use Rattle.std.proofs.Common.{◌≡◌, ◌++◌, map}
use Rattle.std.specs.List.{flat_map}
use Rattle.sp_core.specs.CoreParts.{plain_core}
use Rattle.sp_core.specs.Elements.{numbers_below}
use Rattle.sp_core.specs.Plain.{plain_op}
use Rattle.sp_plan.specs.Orders.{use_orders}
use Rattle.sp_sched.proofs.orders.push_all_uses.Given as goal

abbrev pub invariant-loop-j : goal.invariant-loop-j
invariant-loop-j l = l.into.items ≡ l.initial.into.items ++ flat_map (use_orders (plain_core l.core) (map plain_op l.ops)) (numbers_below l.j)
