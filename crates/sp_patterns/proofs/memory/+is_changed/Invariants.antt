use Rattle.std.proofs.Common.{length}
use Rattle.sp_patterns.proofs.memory.+is_changed.Given as goal

abbrev pub decreases-is_changed : goal.decreases-is_changed
decreases-is_changed l = length l.ops.now
