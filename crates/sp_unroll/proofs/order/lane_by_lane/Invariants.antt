use Rattle.std.proofs.Common.{◌≡◌, ◌++◌, ◌-◌}
use Rattle.sp_lanes.specs.Order.{repeated}
use Rattle.sp_unroll.proofs.order.lane_by_lane.Given as goal

abbrev pub invariant-loop-lane : goal.invariant-loop-lane
invariant-loop-lane l = l.all.items ++ repeated (l.lanes - l._lane) l.list.items ≡ repeated l.lanes l.list.items
