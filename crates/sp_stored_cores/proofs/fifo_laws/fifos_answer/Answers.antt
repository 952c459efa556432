use Rattle.sp_stored_cores.proofs.FifoTaking.{fifos_answer}
use Rattle.sp_stored_cores.proofs.fifo_laws.fifos_answer.Goals as goal

pub returns : goal.returns
returns c core plan = fifos_answer core plan c.picks_accesses_to.ensures (c.accesses_ask.ensures core plan) (c.operations_stay.ensures core plan) (c.queues_go.ensures core plan)
