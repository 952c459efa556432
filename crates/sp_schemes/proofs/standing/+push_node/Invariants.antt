use Rattle.std.proofs.Common.{◌≡◌, ◌++◌, drop}
use Rattle.sp_core.specs.Numbered.{numbers, stages_numbers}
use Rattle.sp_core.specs.Plain.{plain_node, plain_stage_list}
use Rattle.sp_schemes.specs.Places.{marks}
use Rattle.sp_schemes.proofs.standing.+push_node.Given as goal

abbrev pub decreases-push_node : goal.decreases-push_node
decreases-push_node l = goal.size-push_node l

abbrev pub invariant-loop-stage : goal.invariant-loop-stage
invariant-loop-stage l = l.into.items ++ marks (stages_numbers (plain_stage_list (drop l.stage-index l.stage-items))) ≡ l.fn.into.items ++ marks (numbers (plain_node l.fn.node))
