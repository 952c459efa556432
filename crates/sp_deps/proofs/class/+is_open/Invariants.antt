use Rattle.std.proofs.Common.{length}
use Rattle.sp_deps.proofs.class.+is_open.Given as goal

abbrev pub decreases-is_open : goal.decreases-is_open
decreases-is_open l = length l.a.now
