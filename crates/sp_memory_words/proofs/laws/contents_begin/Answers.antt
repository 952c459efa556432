use Rattle.sp_memory_words.proofs.Running.{contents_begin}
use Rattle.sp_memory_words.proofs.laws.contents_begin.Goals as goal

pub returns : goal.returns
returns c core input = contents_begin core input
