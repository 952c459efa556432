use Rattle.std.proofs.Common.{◌≡◌, drop, map}
use Rattle.sp_core.specs.Plain.{plain_counter, plain_stage_list}
use Rattle.sp_core.specs.PlainCore.{PlainStages}
use Rattle.sp_lanes.specs.Unrolled.{left_as_they_are, nodes_in, stages_in}
use Rattle.sp_unroll.specs.Entries.{within_of}
use Rattle.sp_unroll.specs.Stages.{onto, lane_stages}
use Rattle.sp_unroll.proofs.nodes.+nodes.Given as goal

abbrev pub invariant-outer_stages-loop-lane : goal.invariant-outer_stages-loop-lane
invariant-outer_stages-loop-lane l = (rest : PlainStages) → onto l.out.items rest ≡ lane_stages l.order (within_of l.order l.w) (map plain_counter l.counters) l.owned l.lane (plain_stage_list l.stages) rest

abbrev pub invariant-left_as_they_are-loop-stage : goal.invariant-left_as_they_are-loop-stage
invariant-left_as_they_are-loop-stage l = onto l.out.items (left_as_they_are l.order (within_of l.order l.w) (plain_stage_list (drop l.stage-index l.stages))) ≡ left_as_they_are l.order (within_of l.order l.w) (plain_stage_list l.stages)

abbrev pub invariant-push_lane-loop-stage : goal.invariant-push_lane-loop-stage
invariant-push_lane-loop-stage l =
    (rest : PlainStages) → onto l.out.items (stages_in l.lane (nodes_in l.order (within_of l.order l.w) (plain_stage_list (drop l.stage-index l.stages))) rest)
    ≡ onto l.initial.out.items (stages_in l.lane (nodes_in l.order (within_of l.order l.w) (plain_stage_list l.stages)) rest)
