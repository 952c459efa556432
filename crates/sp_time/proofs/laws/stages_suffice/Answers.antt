use Rattle.sp_time.proofs.Whole.{stages_suffice}
use Rattle.sp_time.proofs.laws.stages_suffice.Goals as goal

pub returns : goal.returns
returns c = stages_suffice
