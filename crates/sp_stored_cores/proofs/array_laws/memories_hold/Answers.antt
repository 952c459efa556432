use Rattle.sp_stored_cores.proofs.ArrayWhole.{hold}
use Rattle.sp_stored_cores.proofs.array_laws.memories_hold.Goals as goal

pub returns : goal.returns
returns c core plan = hold core plan (c.scalars_hold.ensures core plan)
