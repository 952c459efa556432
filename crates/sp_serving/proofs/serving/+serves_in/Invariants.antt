use Rattle.std.proofs.Common.{◌≡◌, ◌+◌, ◌≤◌, ◌^◌, drop}
use Rattle.sp_core.specs.CoreParts.{plain_core}
use Rattle.sp_core.specs.Forms.{plain_forms}
use Rattle.sp_core.specs.Numbering.{number_count_in}
use Rattle.sp_core.specs.Plain.{plain_node, plain_stage_list}
use Rattle.sp_serving.specs.Served.{is_served_in, are_stages_served}
use Rattle.sp_serving.proofs.serving.+serves_in.Given as goal

abbrev pub decreases-serves_in : goal.decreases-serves_in
decreases-serves_in l = goal.size-serves_in l

abbrev pub invariant-loop-stage : goal.invariant-loop-stage
invariant-loop-stage l =
    (are_stages_served (plain_core l.core) (plain_forms l.forms) l.m l.scheme l.next (plain_stage_list (drop l.stage-index l.stage-items)) ≡ is_served_in (plain_core l.core) (plain_forms l.forms) l.m l.scheme l.number (plain_node l.fn.node))
    × (l.next + number_count_in (plain_stage_list (drop l.stage-index l.stage-items)) ≤ 2 ^ 30)
