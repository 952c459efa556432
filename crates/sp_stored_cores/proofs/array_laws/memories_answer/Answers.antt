use Rattle.sp_stored_cores.proofs.ArrayWhole.{memories_answer}
use Rattle.sp_stored_cores.proofs.array_laws.memories_answer.Goals as goal

pub returns : goal.returns
returns c core plan delays = memories_answer core plan delays (c.scalars_answer.ensures core plan) (c.fifos_answer.ensures core plan) (c.arrays_answer.ensures core plan delays)
