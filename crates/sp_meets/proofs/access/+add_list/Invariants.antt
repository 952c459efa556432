use Rattle.std.proofs.Common.{length}
use Rattle.sp_meets.proofs.access.+add_list.Given as goal

abbrev pub decreases-add_list : goal.decreases-add_list
decreases-add_list l = length l.ops.now
