use Rattle.sp_node_runs.proofs.RunsStagesTold.{stages_are_told}
use Rattle.sp_node_runs.proofs.runs.stages_are_told.Goals as goal

pub returns : goal.returns
returns c core plan delays = stages_are_told core plan delays
