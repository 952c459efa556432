use Rattle.std.proofs.Common.{◌≡◌, drop}
use Rattle.sp_core.specs.Plain.{plain_stage_list}
use Rattle.sp_unroll.specs.Stages.{onto}
use Rattle.sp_narrow.specs.Narrow.{narrow_stages}
use Rattle.sp_narrow.proofs.nodes.+narrowed.Given as goal

abbrev pub invariant-narrow_stages-loop-stage : goal.invariant-narrow_stages-loop-stage
invariant-narrow_stages-loop-stage l = onto l.made.items (narrow_stages (plain_stage_list (drop l.stage-index l.stages))) ≡ narrow_stages (plain_stage_list l.stages)
