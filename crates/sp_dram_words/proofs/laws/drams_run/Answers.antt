use Rattle.sp_dram_words.proofs.Units.{drams_run}
use Rattle.sp_dram_words.proofs.laws.drams_run.Goals as goal

pub returns : goal.returns
returns c = drams_run
