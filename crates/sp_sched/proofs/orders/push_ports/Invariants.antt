use Rattle.std.proofs.Common.{◌≡◌, ◌++◌, map}
use Rattle.std.specs.List.{flat_map}
use Rattle.sp_core.specs.CoreParts.{plain_core}
use Rattle.sp_core.specs.Elements.{numbers_below}
use Rattle.sp_core.specs.Plain.{plain_op}
use Rattle.sp_plan.specs.Orders.{port_orders}
use Rattle.sp_sched.proofs.orders.push_ports.Given as goal

abbrev pub invariant-loop-i : goal.invariant-loop-i
invariant-loop-i l = l.into.items ≡ l.initial.into.items ++ flat_map (port_orders (plain_core l.core) (map plain_op l.ops) l.schemes l.j) (numbers_below l.i)
