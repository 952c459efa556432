use Rattle.std.proofs.Common.{length}
use Rattle.sp_meets.proofs.view.+add_sites.Given as goal

abbrev pub decreases-add_sites : goal.decreases-add_sites
decreases-add_sites l = length l.spots.now
