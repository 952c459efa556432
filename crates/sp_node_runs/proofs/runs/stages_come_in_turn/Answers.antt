use Rattle.sp_node_runs.proofs.RunsStages.{stages_come_in_turn}
use Rattle.sp_node_runs.proofs.runs.stages_come_in_turn.Goals as goal

pub returns : goal.returns
returns c core plan delays = stages_come_in_turn core plan delays
