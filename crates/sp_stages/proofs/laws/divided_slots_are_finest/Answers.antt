use Rattle.sp_stages.proofs.FinestSlots.{slots_are_finest}
use Rattle.sp_stages.proofs.laws.divided_slots_are_finest.Goals as goal

pub returns : goal.returns
returns c = slots_are_finest
