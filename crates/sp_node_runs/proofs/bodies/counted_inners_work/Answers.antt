use Rattle.sp_node_runs.proofs.BodiesInners.{counted_inners_work}
use Rattle.sp_node_runs.proofs.bodies.counted_inners_work.Goals as goal

pub returns : goal.returns
returns c core plan delays = counted_inners_work core plan delays c.lanes_have_words.ensures c.loops_work.ensures
