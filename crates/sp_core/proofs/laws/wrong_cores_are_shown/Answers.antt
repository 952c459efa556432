use Rattle.sp_core.proofs.ShownLemmas.{shown}
use Rattle.sp_core.proofs.laws.wrong_cores_are_shown.Goals as goal

pub returns : goal.returns
returns c = shown
