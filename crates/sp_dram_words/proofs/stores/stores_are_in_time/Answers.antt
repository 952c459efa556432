use Rattle.sp_dram_words.proofs.Own.{stores_are_in_time}
use Rattle.sp_dram_words.proofs.stores.stores_are_in_time.Goals as goal

pub returns : goal.returns
returns c core plan delays = stores_are_in_time core plan delays (c.transfers_act.ensures core plan delays) c.stores_write_in_whole.ensures (c.transfers_move_drams.ensures core plan delays)
