use Rattle.sp_loop_nets.proofs.Counted.{take_words}
use Rattle.sp_loop_nets.proofs.laws.rows_take_words.Goals as goal

pub returns : goal.returns
returns c = take_words
