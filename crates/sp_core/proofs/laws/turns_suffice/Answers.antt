use Rattle.sp_core.proofs.Turns.{turns_suffice}
use Rattle.sp_core.proofs.laws.turns_suffice.Goals as goal

pub returns : goal.returns
returns c = turns_suffice
