use Rattle.sp_stored_cores.proofs.ScalarAnswered.{left}
use Rattle.sp_stored_cores.proofs.scalar_laws.outputs_are_left.Goals as goal

pub returns : goal.returns
returns c core plan = left core plan (c.scalars_hold.ensures core plan)
