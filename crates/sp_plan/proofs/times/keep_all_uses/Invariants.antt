use Rattle.std.proofs.Common.{◌≡◌, map}
use Rattle.std.specs.List.{flat_map, list_all}
use Rattle.sp_core.specs.CoreParts.{plain_core}
use Rattle.sp_core.specs.Elements.{numbers_below}
use Rattle.sp_core.specs.Plain.{plain_op}
use Rattle.sp_plan.specs.Bodies.{is_kept}
use Rattle.sp_plan.specs.Orders.{use_orders}
use Rattle.sp_plan.proofs.times.keep_all_uses.Given as goal

abbrev pub invariant-loop-j : goal.invariant-loop-j
invariant-loop-j l = l.kept ≡ list_all (is_kept l.ii l.times) (flat_map (use_orders (plain_core l.core) (map plain_op l.ops)) (numbers_below l.j))
