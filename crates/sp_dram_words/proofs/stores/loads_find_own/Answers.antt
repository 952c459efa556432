use Rattle.sp_dram_words.proofs.Own.{loads_find_own}
use Rattle.sp_dram_words.proofs.stores.loads_find_own.Goals as goal

pub returns : goal.returns
returns c core plan delays = loads_find_own core plan delays (c.transfers_act.ensures core plan delays) c.loads_find_in_part.ensures
