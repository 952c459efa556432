use Rattle.sp_lane_groups.proofs.RunsNamed.{name_memories}
use Rattle.sp_lane_groups.proofs.runs.accesses_name_memories.Goals as goal

pub returns : goal.returns
returns c core = name_memories core
