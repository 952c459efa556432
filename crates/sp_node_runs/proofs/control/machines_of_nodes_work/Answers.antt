use Rattle.sp_node_runs.proofs.ControlTurning.{machines_of_nodes_work}
use Rattle.sp_node_runs.proofs.control.machines_of_nodes_work.Goals as goal

pub returns : goal.returns
returns c core plan delays = machines_of_nodes_work core plan delays c.machines_work.ensures
