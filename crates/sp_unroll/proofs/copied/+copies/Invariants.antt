use Rattle.std.proofs.Common.{◌≡◌, drop}
use Rattle.sp_core.specs.Plain.{plain_stage_list}
use Rattle.sp_unroll.specs.Stages.{onto}
use Rattle.sp_unroll.proofs.copied.+copies.Given as goal

abbrev pub invariant-copied_stages-loop-stage : goal.invariant-copied_stages-loop-stage
invariant-copied_stages-loop-stage l = onto l.made.items (plain_stage_list (drop l.stage-index l.stages)) ≡ plain_stage_list l.stages
