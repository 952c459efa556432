use Rattle.sp_narrow.proofs.Rules.{stays_core}
use Rattle.sp_narrow.proofs.laws.narrow_cores_stay_cores.Goals as goal

pub returns : goal.returns
returns c core = stays_core core
