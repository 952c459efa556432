use Rattle.sp_along.proofs.AlongUps.{runs_up}
use Rattle.sp_along.proofs.along.runs_go_up.Goals as goal

pub returns : goal.returns
returns c = runs_up
