use Rattle.sp_stage_places.proofs.Arranging.{stages_are_arranged}
use Rattle.sp_stage_places.proofs.laws.stages_are_arranged.Goals as goal

pub returns : goal.returns
returns c = stages_are_arranged
