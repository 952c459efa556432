use Rattle.sp_queue.proofs.First.{first}
use Rattle.sp_queue.proofs.laws.queues_give_first_words.Goals as goal

pub returns : goal.returns
returns c = record { first = first }
