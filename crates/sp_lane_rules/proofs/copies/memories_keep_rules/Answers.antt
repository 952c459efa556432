use Rattle.sp_lane_rules.proofs.CopiesMemoryRules.{keep_memory_rules}
use Rattle.sp_lane_rules.proofs.copies.memories_keep_rules.Goals as goal

pub returns : goal.returns
returns c core = keep_memory_rules core
