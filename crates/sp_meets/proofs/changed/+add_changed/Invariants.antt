use Rattle.std.proofs.Common.{◌≡◌, ◌++◌, drop}
use Rattle.sp_core.specs.Plain.{plain_node, plain_stage_list}
use Rattle.sp_meets.specs.Around.{changed_in, changed_in_stages}
use Rattle.sp_meets.proofs.changed.+add_changed.Given as goal

abbrev pub decreases-add_changed : goal.decreases-add_changed
decreases-add_changed l = goal.size-add_changed l

-- what stands so far, and what the stages that are left change
abbrev pub invariant-loop-stage : goal.invariant-loop-stage
invariant-loop-stage l =
    l.changed.items ++ changed_in_stages (plain_stage_list (drop l.stage-index l.stage-items))
    ≡ l.fn.changed.items ++ changed_in (plain_node l.fn.node)
