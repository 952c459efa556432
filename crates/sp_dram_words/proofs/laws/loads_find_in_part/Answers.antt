use Rattle.sp_dram_words.proofs.Parts.{loads_find_in_part}
use Rattle.sp_dram_words.proofs.laws.loads_find_in_part.Goals as goal

pub returns : goal.returns
returns c = loads_find_in_part
