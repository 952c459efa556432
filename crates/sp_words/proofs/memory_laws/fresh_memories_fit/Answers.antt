use Rattle.sp_words.proofs.MemoryLemmas.{fresh_fits}
use Rattle.sp_words.proofs.memory_laws.fresh_memories_fit.Goals as goal

pub returns : goal.returns
returns c = fresh_fits
