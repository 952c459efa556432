use Rattle.std.proofs.Common.{length}
use Rattle.sp_patterns.proofs.index.+greatest_rest.Given as goal

abbrev pub decreases-greatest_rest : goal.decreases-greatest_rest
decreases-greatest_rest l = length l.coefs.now
