use Rattle.sp_node_runs.proofs.ControlBeating.{loops_of_nodes_work}
use Rattle.sp_node_runs.proofs.control.loops_of_nodes_work.Goals as goal

pub returns : goal.returns
returns c core plan delays = loops_of_nodes_work core plan delays c.loops_in_beats_work.ensures c.loops_are_in_timeline.ensures
