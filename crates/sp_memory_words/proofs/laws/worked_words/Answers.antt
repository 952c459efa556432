use Rattle.sp_memory_words.proofs.Working.{worked}
use Rattle.sp_memory_words.proofs.laws.worked_words.Goals as goal

pub returns : goal.returns
returns c = worked
