use Rattle.std.proofs.Common.{length}
use Rattle.sp_deps.proofs.terms.+outside.Given as goal

abbrev pub decreases-outside : goal.decreases-outside
decreases-outside l = length l.a.now
