use Rattle.sp_dram_words.proofs.Worked.{worked_dram}
use Rattle.sp_dram_words.proofs.laws.worked_dram.Goals as goal

pub returns : goal.returns
returns c = worked_dram
