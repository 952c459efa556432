use Rattle.sp_dram_words.proofs.Units.{units_join}
use Rattle.sp_dram_words.proofs.laws.units_join.Goals as goal

pub returns : goal.returns
returns c = units_join
