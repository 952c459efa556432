use Rattle.std.proofs.Common.{◌≡◌, ◌+◌, drop}
use Rattle.sp_lanes.specs.Order.{occurrence}
use Rattle.sp_unroll.proofs.order.occurrence.Given as goal

abbrev pub invariant-loop-x : goal.invariant-loop-x
invariant-loop-x l = l.place + occurrence l.m l.left (drop l.x-index l.order) ≡ occurrence l.m l.k l.order
