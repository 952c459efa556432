use Rattle.sp_narrow.proofs.Timed.{timed_is_narrow}
use Rattle.sp_narrow.proofs.laws.timed_cores_are_narrow.Goals as goal

pub returns : goal.returns
returns c core = timed_is_narrow core
