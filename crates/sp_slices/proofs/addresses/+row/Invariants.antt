use Rattle.std.proofs.Common.{length}
use Rattle.sp_slices.proofs.addresses.+row.Given as goal

abbrev pub decreases-row : goal.decreases-row
decreases-row l = length l.dims.now
