use Rattle.std.proofs.Common.{length}
use Rattle.sp_copy_nets.proofs.table.+with_own_numbers.Given as goal

abbrev pub decreases-with_own_numbers : goal.decreases-with_own_numbers
decreases-with_own_numbers l = length l.owned.now
