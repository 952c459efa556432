use Rattle.sp_forms_hold.proofs.RunsParts.{parts_stand}
use Rattle.sp_forms_hold.proofs.runs.parts_stand_at_their_numbers.Goals as goal

pub returns : goal.returns
returns c core = parts_stand core
