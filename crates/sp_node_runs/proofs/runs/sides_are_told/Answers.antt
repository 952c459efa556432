use Rattle.sp_node_runs.proofs.RunsSidesTold.{sides_are_told}
use Rattle.sp_node_runs.proofs.runs.sides_are_told.Goals as goal

pub returns : goal.returns
returns c core plan delays = sides_are_told core plan delays
