use Rattle.sp_contents.proofs.Stay.{runs_stay}
use Rattle.sp_contents.proofs.laws.runs_stay.Goals as goal

pub returns : goal.returns
returns c = runs_stay
