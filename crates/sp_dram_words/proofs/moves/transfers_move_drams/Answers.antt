use Rattle.sp_dram_words.proofs.Moving.{transfers_move_drams}
use Rattle.sp_dram_words.proofs.moves.transfers_move_drams.Goals as goal

pub returns : goal.returns
returns c core plan delays = transfers_move_drams core plan delays (c.timelines_are_acted.ensures core plan delays) (c.transfers_move.ensures core)
