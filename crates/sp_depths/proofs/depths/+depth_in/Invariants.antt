use Rattle.std.proofs.Common.{◌≡◌, suc, ◌+◌, ◌≤◌, ◌^◌, max, map, drop}
use Rattle.sp_core.specs.CoreParts.{plain_core}
use Rattle.sp_core.specs.Numbering.{node_count_in}
use Rattle.sp_core.specs.Plain.{plain_stage_list}
use Rattle.sp_depths.specs.Depths.{depth_in_stages}
use Rattle.sp_plan.specs.Plain.{plain_node_plan}
use Rattle.sp_depths.proofs.depths.+depth_in.Given as goal

abbrev pub decreases-depth_in : goal.decreases-depth_in
decreases-depth_in l = goal.size-depth_in l

-- the greatest so far, and that of what is left
abbrev pub invariant-loop-stage : goal.invariant-loop-stage
invariant-loop-stage l =
    (max l.most (depth_in_stages (plain_core l.core) (map plain_node_plan l.nodes) l.m l.next (plain_stage_list (drop l.stage-index l.stage-items))) ≡ max 1 (depth_in_stages (plain_core l.core) (map plain_node_plan l.nodes) l.m (suc l.k) (plain_stage_list l.stage-items)))
    × (1 ≤ l.most)
    × (l.next + node_count_in (plain_stage_list (drop l.stage-index l.stage-items)) ≤ 2 ^ 30)
