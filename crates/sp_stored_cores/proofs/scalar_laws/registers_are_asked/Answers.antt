use Rattle.sp_stored_cores.proofs.ScalarAnswered.{asked}
use Rattle.sp_stored_cores.proofs.scalar_laws.registers_are_asked.Goals as goal

pub returns : goal.returns
returns c core plan = asked core plan c.picks_accesses_to.ensures (c.accesses_ask.ensures core plan) (c.contents_begin.ensures core)
