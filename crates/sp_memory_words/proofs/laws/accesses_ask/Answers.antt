use Rattle.sp_memory_words.proofs.Numbered.{accesses_ask}
use Rattle.sp_memory_words.proofs.laws.accesses_ask.Goals as goal

pub returns : goal.returns
returns c core plan = accesses_ask c.numbers_stand_for_one.ensures core plan (c.transfers_move.ensures core)
