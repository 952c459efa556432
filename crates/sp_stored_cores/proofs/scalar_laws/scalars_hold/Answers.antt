use Rattle.sp_stored_cores.proofs.ScalarAnswered.{holds}
use Rattle.sp_stored_cores.proofs.scalar_laws.scalars_hold.Goals as goal

pub returns : goal.returns
returns c core plan = holds core plan (c.registers_are_asked.ensures core plan) (c.registers_hold.ensures core plan)
