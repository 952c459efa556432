use Rattle.sp_words.proofs.MemoryLemmas.{footprint}
use Rattle.sp_words.proofs.memory_laws.accesses_are_footprints.Goals as goal

pub returns : goal.returns
returns g c = λ access. footprint c.args.memory access
