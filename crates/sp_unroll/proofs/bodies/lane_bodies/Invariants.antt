use Rattle.std.proofs.Common.{◌≡◌, ◌++◌, ◌-◌, length, map}
use Rattle.sp_core.specs.Plain.{plain_ops, plain_counter}
use Rattle.sp_lanes.specs.Bodies.{all_ops, lane_bodies, more_bodies}
use Rattle.sp_lanes.specs.Unrolled.{last_number}
use Rattle.sp_lanes.specs.Within.{in_lane}
use Rattle.sp_unroll.specs.Bodies.{plain_body, bare}
use Rattle.sp_unroll.specs.Entries.{within_of}
use Rattle.sp_unroll.proofs.bodies.lane_bodies.Given as goal

abbrev pub invariant-loop-lane : goal.invariant-loop-lane
invariant-loop-lane l = record {
  ops : plain_ops l.ops.items ++ all_ops (more_bodies (last_number (map plain_counter l.counters)) (in_lane l.order (map plain_counter l.counters) l.owned (within_of l.order l.w)) (plain_ops l.body) l.lane (l.count - l.lane) (length (plain_ops l.ops.items)) l.others.items)
      ≡ all_ops (lane_bodies (last_number (map plain_counter l.counters)) (in_lane l.order (map plain_counter l.counters) l.owned (within_of l.order l.w)) (plain_ops l.body) l.owned l.count);
  lanes : map plain_body l.lanes.items ++ map bare (more_bodies (last_number (map plain_counter l.counters)) (in_lane l.order (map plain_counter l.counters) l.owned (within_of l.order l.w)) (plain_ops l.body) l.lane (l.count - l.lane) (length (plain_ops l.ops.items)) l.others.items)
      ≡ map bare (lane_bodies (last_number (map plain_counter l.counters)) (in_lane l.order (map plain_counter l.counters) l.owned (within_of l.order l.w)) (plain_ops l.body) l.owned l.count);
}
