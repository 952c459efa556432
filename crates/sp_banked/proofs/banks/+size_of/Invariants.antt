use Rattle.std.proofs.Common.{length}
use Rattle.sp_banked.proofs.banks.+size_of.Given as goal

abbrev pub decreases-size_of : goal.decreases-size_of
decreases-size_of l = length l.sizes.now
