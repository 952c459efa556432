use Rattle.std.proofs.Common.{length}
use Rattle.sp_slices.proofs.some.+all_have_values.Given as goal

abbrev pub decreases-all_have_values : goal.decreases-all_have_values
decreases-all_have_values l = length l.counts.now
