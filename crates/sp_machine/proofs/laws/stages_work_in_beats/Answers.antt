use Rattle.sp_machine.proofs.InBeats.{works_in_beats}
use Rattle.sp_machine.proofs.laws.stages_work_in_beats.Goals as goal

pub returns : goal.returns
returns c = works_in_beats
