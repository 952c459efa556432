use Rattle.sp_dram_words.proofs.Moving.{transfers_act}
use Rattle.sp_dram_words.proofs.moves.transfers_act.Goals as goal

pub returns : goal.returns
returns c core plan delays = transfers_act core plan delays c.numbers_stand_for_one.ensures (c.timelines_are_acted.ensures core plan delays)
