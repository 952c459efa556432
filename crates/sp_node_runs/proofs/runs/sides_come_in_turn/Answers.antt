use Rattle.sp_node_runs.proofs.RunsSides.{sides_come_in_turn}
use Rattle.sp_node_runs.proofs.runs.sides_come_in_turn.Goals as goal

pub returns : goal.returns
returns c core plan delays = sides_come_in_turn core plan delays
