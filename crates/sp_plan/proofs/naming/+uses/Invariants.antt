use Rattle.std.proofs.Common.{◌≡◌, drop}
use Rattle.std.specs.List.{list_any}
use Rattle.sp_core.specs.CoreParts.{plain_core}
use Rattle.sp_core.specs.Declarations.{is_among}
use Rattle.sp_core.specs.Plain.{plain_node, plain_stage_list}
use Rattle.sp_plan.specs.Named.{stages_names, uses}
use Rattle.sp_plan.proofs.naming.+uses.Given as goal

abbrev pub decreases-uses : goal.decreases-uses
decreases-uses l = goal.size-uses l

abbrev pub invariant-loop-stage : goal.invariant-loop-stage
invariant-loop-stage l = list_any (is_among l.m) (stages_names (plain_core l.core) (plain_stage_list (drop l.stage-index l.stage-items))) ≡ uses (plain_core l.fn.core) l.fn.m (plain_node l.fn.node)
