use Rattle.sp_dram_words.proofs.OneCopy.{drams_are_one}
use Rattle.sp_dram_words.proofs.laws.drams_are_one.Goals as goal

pub returns : goal.returns
returns c core plan delays = drams_are_one core plan delays (c.runs_stay.ensures core plan delays)
