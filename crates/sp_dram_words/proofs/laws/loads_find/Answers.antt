use Rattle.sp_dram_words.proofs.Holding.{loads_find}
use Rattle.sp_dram_words.proofs.laws.loads_find.Goals as goal

pub returns : goal.returns
returns c core plan = loads_find core plan
