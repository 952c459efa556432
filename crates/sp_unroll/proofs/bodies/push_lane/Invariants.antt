use Rattle.std.proofs.Common.{◌≡◌, [], drop, length}
use Rattle.sp_core.specs.Plain.{plain_ops}
use Rattle.sp_lanes.specs.Bodies.{lane_from}
use Rattle.sp_unroll.specs.Bodies.{before}
use Rattle.sp_unroll.specs.Entries.{within_of}
use Rattle.sp_unroll.proofs.bodies.push_lane.Given as goal

abbrev pub invariant-loop-i : goal.invariant-loop-i
invariant-loop-i l =
    before (plain_ops l.ops.items) (lane_from (within_of l.order l.w) l.live (length (plain_ops l.ops.items)) l.places.items (plain_ops (drop l.i l.body)) (drop l.i l.others))
    ≡ before (plain_ops l.initial.ops.items) (lane_from (within_of l.order l.w) l.live (length (plain_ops l.initial.ops.items)) [] (plain_ops l.body) l.others)
