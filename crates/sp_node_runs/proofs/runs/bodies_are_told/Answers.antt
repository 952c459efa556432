use Rattle.sp_node_runs.proofs.RunsSidesTold.{bodies_are_told}
use Rattle.sp_node_runs.proofs.runs.bodies_are_told.Goals as goal

pub returns : goal.returns
returns c core plan delays = bodies_are_told core plan delays
