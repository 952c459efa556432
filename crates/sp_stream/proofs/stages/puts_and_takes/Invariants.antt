use Rattle.std.proofs.Common.{◌≡◌, drop}
use Rattle.std.specs.List.{list_any}
use Rattle.sp_core.specs.Plain.{plain_stage_list}
use Rattle.sp_stream.specs.Proper.{nodes_of, puts_and_takes}
use Rattle.sp_stream.proofs.stages.puts_and_takes.Given as goal

abbrev pub invariant-loop-stage : goal.invariant-loop-stage
invariant-loop-stage l = list_any (puts_and_takes l.m) (nodes_of (plain_stage_list (drop l.stage-index l.stages))) ≡ list_any (puts_and_takes l.m) (nodes_of (plain_stage_list l.stages))
