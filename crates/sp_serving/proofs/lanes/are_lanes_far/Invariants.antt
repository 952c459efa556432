use Rattle.std.proofs.Common.{◌≡◌}
use Rattle.std.specs.List.{list_all}
use Rattle.sp_core.specs.Elements.{numbers_below}
use Rattle.sp_serving.specs.Apart.{is_lane_far}
use Rattle.sp_serving.proofs.lanes.are_lanes_far.Given as goal

abbrev pub invariant-loop-j : goal.invariant-loop-j
invariant-loop-j l = l.far ≡ list_all (λ q. list_all (is_lane_far l.scheme l.rank q) (numbers_below q)) (numbers_below l.j)
