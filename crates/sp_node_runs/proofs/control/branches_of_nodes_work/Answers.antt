use Rattle.sp_node_runs.proofs.ControlBranching.{branches_of_nodes_work}
use Rattle.sp_node_runs.proofs.control.branches_of_nodes_work.Goals as goal

pub returns : goal.returns
returns c core plan delays = branches_of_nodes_work core plan delays c.branches_work.ensures
