use Rattle.sp_lane_programs.proofs.TimedNodes.{stays_timed}
use Rattle.sp_lane_programs.proofs.timed.nodes_are_timed.Goals as goal

pub returns : goal.returns
returns c core = stays_timed core
