use Rattle.std.proofs.Common.{◌≡◌, ◌+◌, ◌≤◌, ◌^◌, drop}
use Rattle.sp_core.specs.Numbering.{number_count, number_count_in}
use Rattle.sp_core.specs.Plain.{plain_node, plain_stage_list}
use Rattle.sp_plan.proofs.size.+count_numbers.Given as goal

abbrev pub decreases-count_numbers : goal.decreases-count_numbers
decreases-count_numbers l = goal.size-count_numbers l

abbrev pub invariant-loop-stage : goal.invariant-loop-stage
invariant-loop-stage l = (l.total + number_count_in (plain_stage_list (drop l.stage-index l.stage-items)) ≡ number_count (plain_node l.fn.node)) × (number_count (plain_node l.fn.node) ≤ 2 ^ 30)
