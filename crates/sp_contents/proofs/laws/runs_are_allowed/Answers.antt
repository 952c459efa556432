use Rattle.sp_contents.proofs.Allowed.{runs_allowed}
use Rattle.sp_contents.proofs.laws.runs_are_allowed.Goals as goal

pub returns : goal.returns
returns c = runs_allowed
