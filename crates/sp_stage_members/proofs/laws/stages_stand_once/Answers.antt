use Rattle.sp_stage_members.proofs.Once.{stages_stand_once}
use Rattle.sp_stage_members.proofs.laws.stages_stand_once.Goals as goal

pub returns : goal.returns
returns c = stages_stand_once
