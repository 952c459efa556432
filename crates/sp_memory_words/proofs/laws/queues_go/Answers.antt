use Rattle.sp_memory_words.proofs.Queued.{queues_go}
use Rattle.sp_memory_words.proofs.laws.queues_go.Goals as goal

pub returns : goal.returns
returns c core plan = queues_go c.queues_give_first_words.ensures core plan
