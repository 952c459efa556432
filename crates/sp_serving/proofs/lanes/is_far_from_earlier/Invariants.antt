use Rattle.std.proofs.Common.{◌≡◌}
use Rattle.std.specs.List.{list_all}
use Rattle.sp_core.specs.Elements.{numbers_below}
use Rattle.sp_serving.specs.Apart.{is_lane_far}
use Rattle.sp_serving.proofs.lanes.is_far_from_earlier.Given as goal

abbrev pub invariant-loop-i : goal.invariant-loop-i
invariant-loop-i l = l.far ≡ list_all (is_lane_far l.scheme l.rank l.j) (numbers_below l.i)
