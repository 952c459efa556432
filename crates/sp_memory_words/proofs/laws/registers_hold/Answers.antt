use Rattle.sp_memory_words.proofs.Holding.{registers_hold}
use Rattle.sp_memory_words.proofs.laws.registers_hold.Goals as goal

pub returns : goal.returns
returns c core plan = registers_hold core plan
