use Rattle.std.proofs.Common.{◌≡◌, drop}
use Rattle.sp_core.specs.Plain.{plain_stage_list}
use Rattle.sp_stream.specs.Parts.{is_act}
use Rattle.sp_stream.specs.Proper.{nodes_of, acts_in, place_from}
use Rattle.sp_stream.proofs.stages.place_of.Given as goal

abbrev pub invariant-loop-stage : goal.invariant-loop-stage
invariant-loop-stage l =
    (place_from l.place (acts_in (is_act l.act) l.m) (nodes_of (plain_stage_list (drop l.stage-index l.stages))) ≡ place_from 0 (acts_in (is_act l.act) l.m) (nodes_of (plain_stage_list l.stages)))
    × (l.place ≡ l.stage-index)
