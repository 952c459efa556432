use Rattle.std.proofs.Common.{◌≡◌, drop}
use Rattle.sp_core.specs.Numbered.{numbers, stages_numbers}
use Rattle.sp_core.specs.Plain.{plain_node, plain_stage_list}
use Rattle.sp_serving.specs.Standing.{passed}
use Rattle.sp_serving.proofs.standing.+past_node.Given as goal

abbrev pub decreases-past_node : goal.decreases-past_node
decreases-past_node l = goal.size-past_node l

abbrev pub invariant-loop-stage : goal.invariant-loop-stage
invariant-loop-stage l = passed l.p (stages_numbers (plain_stage_list (drop l.stage-index l.stage-items))) ≡ passed l.fn.before (numbers (plain_node l.fn.node))
