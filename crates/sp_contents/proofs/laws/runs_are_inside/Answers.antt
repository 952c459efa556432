use Rattle.sp_contents.proofs.SlicesInside.{runs_inside}
use Rattle.sp_contents.proofs.laws.runs_are_inside.Goals as goal

pub returns : goal.returns
returns c = runs_inside
