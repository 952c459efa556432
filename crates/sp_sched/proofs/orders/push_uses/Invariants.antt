use Rattle.std.proofs.Common.{◌≡◌, ◌++◌, map, take}
use Rattle.sp_core.specs.CoreParts.{plain_core}
use Rattle.sp_core.specs.Plain.{plain_op}
use Rattle.sp_plan.specs.Orders.{use_order}
use Rattle.sp_sched.proofs.orders.push_uses.Given as goal

abbrev pub invariant-loop-arg : goal.invariant-loop-arg
invariant-loop-arg l = l.into.items ≡ l.initial.into.items ++ map (use_order (plain_core l.core) (map plain_op l.ops) l.j) (take l.arg-index l.arg-items)
