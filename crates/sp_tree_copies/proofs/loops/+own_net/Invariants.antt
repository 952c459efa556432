use Rattle.std.proofs.Common.{length}
use Rattle.sp_tree_copies.proofs.loops.+own_net.Given as goal

abbrev pub decreases-own_net : goal.decreases-own_net
decreases-own_net l = length l.owned.now
