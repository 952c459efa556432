use Rattle.std.proofs.Common.{◌≡◌, ◌+◌, ◌≤◌, ◌^◌, ◌++◌, map, drop}
use Rattle.sp_core.specs.CoreParts.{plain_core}
use Rattle.sp_core.specs.Forms.{plain_forms}
use Rattle.sp_core.specs.Numbering.{number_count_in}
use Rattle.sp_core.specs.Plain.{plain_node, plain_stage_list}
use Rattle.sp_schemes.specs.Groups.{groups_in, stage_groups}
use Rattle.sp_schemes.proofs.groups.+push_groups_in.Given as goal

abbrev pub decreases-push_groups_in : goal.decreases-push_groups_in
decreases-push_groups_in l = goal.size-push_groups_in l

abbrev pub invariant-loop-stage : goal.invariant-loop-stage
invariant-loop-stage l =
    (map (λ g. g.items) l.into.items ++ stage_groups (plain_core l.core) (plain_forms l.forms) l.m l.next (plain_stage_list (drop l.stage-index l.stage-items)) ≡ map (λ g. g.items) l.fn.into.items ++ groups_in (plain_core l.core) (plain_forms l.forms) l.m l.number (plain_node l.fn.node))
    × (l.next + number_count_in (plain_stage_list (drop l.stage-index l.stage-items)) ≤ 2 ^ 30)
