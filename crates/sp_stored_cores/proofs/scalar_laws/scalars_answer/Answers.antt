use Rattle.sp_stored_cores.proofs.ScalarAnswered.{answer}
use Rattle.sp_stored_cores.proofs.scalar_laws.scalars_answer.Goals as goal

pub returns : goal.returns
returns c core plan = answer core plan (c.registers_are_asked.ensures core plan) (c.registers_answer.ensures core plan) (c.arguments_answer.ensures core plan) (c.contents_begin.ensures core) (c.operations_stay.ensures core plan)
