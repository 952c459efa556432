use Rattle.std.proofs.Common.{◌≡◌, drop, nat_lt}
use Rattle.std.specs.List.{list_all}
use Rattle.sp_core.proofs.lanes.are_below.Given as goal

abbrev pub invariant-loop-lane : goal.invariant-loop-lane
invariant-loop-lane l = list_all (λ lane. nat_lt lane l.most) (drop l.lane-index l.lanes) ≡ list_all (λ lane. nat_lt lane l.most) l.lanes
