use Rattle.std.proofs.Common.{◌≡◌, drop}
use Rattle.std.specs.List.{list_all}
use Rattle.sp_core.specs.CoreParts.{plain_core}
use Rattle.sp_core.specs.Plain.{plain_stage_list}
use Rattle.sp_stream.specs.Proper.{nodes_of, is_stage}
use Rattle.sp_stream.proofs.stages.are_loops.Given as goal

abbrev pub invariant-loop-stage : goal.invariant-loop-stage
invariant-loop-stage l = list_all (is_stage (plain_core l.core)) (nodes_of (plain_stage_list (drop l.stage-index l.stages))) ≡ list_all (is_stage (plain_core l.core)) (nodes_of (plain_stage_list l.stages))
