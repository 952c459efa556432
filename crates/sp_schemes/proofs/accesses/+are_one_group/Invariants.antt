use Rattle.std.proofs.Common.{length}
use Rattle.sp_schemes.proofs.accesses.+are_one_group.Given as goal

abbrev pub decreases-are_one_group : goal.decreases-are_one_group
decreases-are_one_group l = length l.uses.now
