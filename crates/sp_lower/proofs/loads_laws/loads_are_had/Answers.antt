use Rattle.sp_lower.proofs.LoadsHaving.{had}
use Rattle.sp_lower.proofs.loads_laws.loads_are_had.Goals as goal

pub returns : goal.returns
returns c = had
