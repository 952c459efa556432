use Rattle.std.proofs.Common.{◌≡◌, length}
use Rattle.sp_core.specs.NodeRules.{after_singles}
use Rattle.sp_core.specs.Plain.{plain_stage_list}
use Rattle.sp_core.proofs.lanes.after_singles.Given as goal

abbrev pub invariant-loop-stage : goal.invariant-loop-stage
invariant-loop-stage l = after_singles (plain_stage_list l.left) ≡ after_singles (plain_stage_list l.stages)

abbrev pub decreases-loop-stage : goal.decreases-loop-stage
decreases-loop-stage l = length l.left
