use Rattle.std.proofs.Common.{◌≡◌, ◌++◌, drop}
use Rattle.sp_core.specs.Invariant.{owned_in, owned_in_stages}
use Rattle.sp_core.specs.Plain.{plain_node, plain_stage_list}
use Rattle.sp_core.proofs.size.+collect_owned.Given as goal

abbrev pub decreases-collect_owned : goal.decreases-collect_owned
decreases-collect_owned l = goal.size-collect_owned l

abbrev pub invariant-loop-stage : goal.invariant-loop-stage
invariant-loop-stage l = l.into.items ++ owned_in_stages (plain_stage_list (drop l.stage-index l.stage-items)) ≡ l.fn.into.items ++ owned_in (plain_node l.node)
