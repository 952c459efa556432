use Rattle.sp_node_runs.proofs.BodiesInners.{single_inners_work}
use Rattle.sp_node_runs.proofs.bodies.single_inners_work.Goals as goal

pub returns : goal.returns
returns c core plan delays = single_inners_work core plan delays c.lanes_have_words.ensures c.singles_work.ensures
