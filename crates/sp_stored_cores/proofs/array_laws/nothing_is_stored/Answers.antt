use Rattle.sp_stored_cores.proofs.ArrayWhole.{nothing_stored}
use Rattle.sp_stored_cores.proofs.array_laws.nothing_is_stored.Goals as goal

pub returns : goal.returns
returns c core = nothing_stored core
