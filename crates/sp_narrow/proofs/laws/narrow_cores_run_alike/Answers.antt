use Rattle.sp_narrow.proofs.Runs.{runs_alike}
use Rattle.sp_narrow.proofs.laws.narrow_cores_run_alike.Goals as goal

pub returns : goal.returns
returns c core = runs_alike core
