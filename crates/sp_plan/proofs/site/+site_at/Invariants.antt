use Rattle.std.proofs.Common.{◌≡◌, ◌+◌, ◌≤◌, ◌^◌, drop}
use Rattle.sp_core.specs.Declarations.{is_stream}
use Rattle.sp_core.specs.Numbering.{node_count_in, number_count_in}
use Rattle.sp_core.specs.Plain.{plain_node, plain_stage_list}
use Rattle.sp_plan.specs.Nodes.{site_at, stage_site_at}
use Rattle.sp_plan.proofs.site.+site_at.Given as goal

abbrev pub decreases-site_at : goal.decreases-site_at
decreases-site_at l = goal.size-site_at l

-- the node stands where it stands among the stages that are left
abbrev pub invariant-loop-stage : goal.invariant-loop-stage
invariant-loop-stage l =
    (stage_site_at l.left l.next (is_stream l.style) (plain_stage_list (drop l.stage-index l.stage-items)) ≡ site_at l.fn.wanted l.fn.number l.fn.streamed (plain_node l.fn.node))
    × (l.next + number_count_in (plain_stage_list (drop l.stage-index l.stage-items)) ≤ 2 ^ 30)
    × (node_count_in (plain_stage_list (drop l.stage-index l.stage-items)) ≤ 2 ^ 30)
