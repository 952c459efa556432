use Rattle.sp_access_nets.proofs.Telling.{reserved}
use Rattle.sp_access_nets.proofs.laws.reserved_are_answers.Goals as goal

pub returns : goal.returns
returns c = reserved
