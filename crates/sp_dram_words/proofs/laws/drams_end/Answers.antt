use Rattle.sp_dram_words.proofs.Holding.{drams_end}
use Rattle.sp_dram_words.proofs.laws.drams_end.Goals as goal

pub returns : goal.returns
returns c core plan delays = drams_end core plan delays
