use Rattle.std.proofs.Common.{◌≡◌, ◌+◌, ◌≤◌, ◌^◌, drop}
use Rattle.sp_core.specs.CoreParts.{plain_core}
use Rattle.sp_core.specs.Forms.{plain_forms}
use Rattle.sp_core.specs.Numbering.{number_count_in}
use Rattle.sp_core.specs.Plain.{plain_node, plain_stage_list}
use Rattle.sp_schemes.specs.Groups.{are_grouped_in, are_stages_grouped}
use Rattle.sp_schemes.proofs.groups.+are_grouped_in.Given as goal

abbrev pub decreases-are_grouped_in : goal.decreases-are_grouped_in
decreases-are_grouped_in l = goal.size-are_grouped_in l

abbrev pub invariant-loop-stage : goal.invariant-loop-stage
invariant-loop-stage l =
    (are_stages_grouped (plain_core l.core) (plain_forms l.forms) l.m l.next (plain_stage_list (drop l.stage-index l.stage-items)) ≡ are_grouped_in (plain_core l.core) (plain_forms l.forms) l.m l.number (plain_node l.fn.node))
    × (l.next + number_count_in (plain_stage_list (drop l.stage-index l.stage-items)) ≤ 2 ^ 30)
