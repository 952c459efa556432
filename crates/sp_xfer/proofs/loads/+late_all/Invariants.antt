use Rattle.std.proofs.Common.{length}
use Rattle.sp_xfer.proofs.loads.+late_all.Given as goal

abbrev pub decreases-late_all : goal.decreases-late_all
decreases-late_all l = length l.nets.now
