use Rattle.std.proofs.Common.{length}
use Rattle.sp_patterns.proofs.index.+least_rest.Given as goal

abbrev pub decreases-least_rest : goal.decreases-least_rest
decreases-least_rest l = length l.coefs.now
