use Rattle.sp_stored_cores.proofs.ArrayWhole.{nothing_loaded}
use Rattle.sp_stored_cores.proofs.array_laws.nothing_is_loaded.Goals as goal

pub returns : goal.returns
returns c core = nothing_loaded core
