use Rattle.sp_dram_words.proofs.Holding.{drams_hold}
use Rattle.sp_dram_words.proofs.laws.drams_hold.Goals as goal

pub returns : goal.returns
returns c core plan = drams_hold core plan
