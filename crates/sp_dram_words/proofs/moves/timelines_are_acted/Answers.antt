use Rattle.sp_dram_words.proofs.Acting.{timelines_are_acted}
use Rattle.sp_dram_words.proofs.moves.timelines_are_acted.Goals as goal

pub returns : goal.returns
returns c core plan delays = timelines_are_acted core plan delays (c.timelines_tell_all.ensures core plan delays core.root)
