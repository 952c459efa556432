use Rattle.sp_dram_words.proofs.Parts.{stores_write_in_whole}
use Rattle.sp_dram_words.proofs.laws.stores_write_in_whole.Goals as goal

pub returns : goal.returns
returns c = stores_write_in_whole
