use Rattle.std.proofs.Common.{length}
use Rattle.sp_patterns.proofs.index.+leaves_out.Given as goal

abbrev pub decreases-leaves_out : goal.decreases-leaves_out
decreases-leaves_out l = length l.coefs.now
