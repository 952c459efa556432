use Rattle.std.proofs.Common.{◌≡◌, ◌+◌, ◌≤◌, drop}
use Rattle.sp_core.specs.Plain.{plain_stage_list}
use Rattle.sp_stream.specs.Parts.{is_act}
use Rattle.sp_stream.specs.Proper.{nodes_of, how_many}
use Rattle.sp_stream.proofs.stages.how_many.Given as goal

abbrev pub invariant-loop-stage : goal.invariant-loop-stage
invariant-loop-stage l =
    (l.count + how_many (is_act l.act) l.m (nodes_of (plain_stage_list (drop l.stage-index l.stages))) ≡ how_many (is_act l.act) l.m (nodes_of (plain_stage_list l.stages)))
    × (l.count ≤ l.stage-index)
