use Rattle.std.proofs.Common.{◌≡◌, drop, map}
use Rattle.std.specs.List.{flat_map, list_all}
use Rattle.sp_core.specs.CoreParts.{plain_core}
use Rattle.sp_core.specs.Plain.{plain_op}
use Rattle.sp_plan.specs.Bodies.{is_kept}
use Rattle.sp_plan.specs.Orders.{meet_orders}
use Rattle.sp_plan.proofs.times.keep_meets.Given as goal

abbrev pub invariant-loop-meet : goal.invariant-loop-meet
invariant-loop-meet l = list_all (is_kept l.ii l.times) (flat_map (meet_orders (plain_core l.core) (map plain_op l.ops) l.number) (drop l.meet-index l.meets)) ≡ list_all (is_kept l.ii l.times) (flat_map (meet_orders (plain_core l.core) (map plain_op l.ops) l.number) l.meets)
