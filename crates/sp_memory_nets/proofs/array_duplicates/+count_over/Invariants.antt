use Rattle.std.proofs.Common.{◌≡◌, ◌+◌, ◌*◌, ◌≤◌, ◌^◌, drop}
use Rattle.sp_core.specs.CoreParts.{plain_core}
use Rattle.sp_core.specs.Numbering.{node_count, node_count_in, number_count_in}
use Rattle.sp_core.specs.Plain.{plain_node, plain_stage_list}
use Rattle.sp_core_ports.specs.UsedReaders.{over_at, readers_in, readers_in_stages}
use Rattle.sp_memory_nets.proofs.array_duplicates.+count_over.Given as goal

abbrev pub decreases-count_over : goal.decreases-count_over
decreases-count_over l = goal.size-count_over l

-- what is counted, and the stages that are left, whose numbers begin with `first`
abbrev pub invariant-loop-stage : goal.invariant-loop-stage
invariant-loop-stage l =
    (l.total + over_at l.at (readers_in_stages (plain_core l.core) l.m l.first (plain_stage_list (drop l.stage-index l.stage-items))) ≡ over_at l.fn.at (readers_in (plain_core l.fn.core) l.fn.m l.fn.number (plain_node l.fn.node)))
    × (l.first + number_count_in (plain_stage_list (drop l.stage-index l.stage-items)) ≤ 2 ^ 30)
    × (l.total + 3 * node_count_in (plain_stage_list (drop l.stage-index l.stage-items)) ≤ 3 * node_count (plain_node l.fn.node))
    × (node_count_in (plain_stage_list (drop l.stage-index l.stage-items)) ≤ 2 ^ 30)
    × (node_count (plain_node l.fn.node) ≤ 2 ^ 30)
