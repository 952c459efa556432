use Rattle.sp_loop_circuits.proofs.Loops.{closed_loops_are_circuits}
use Rattle.sp_loop_circuits.proofs.laws.closed_loops_are_circuits.Goals as goal

pub returns : goal.returns
returns c = closed_loops_are_circuits c.members_are_circuits.ensures c.rows_take_words.ensures
