use Rattle.std.proofs.Common.{◌≡◌, drop, None}
use Rattle.sp_core.specs.CoreParts.{plain_core}
use Rattle.sp_core.specs.Plain.{plain_stage_list}
use Rattle.sp_plan.specs.Copies.{used_slots}
use Rattle.sp_tree_handed.specs.Owners.{least_with}
use Rattle.sp_tree_handed.proofs.slots.first_by.Given as goal

abbrev pub invariant-loop-stage : goal.invariant-loop-stage
invariant-loop-stage l =
    least_with l.met (used_slots (plain_core l.core) l.m (plain_stage_list (drop l.stage-index l.stages)) l.left) ≡ least_with None (used_slots (plain_core l.core) l.m (plain_stage_list l.stages) l.slots)
