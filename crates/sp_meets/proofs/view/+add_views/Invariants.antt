use Rattle.std.proofs.Common.{length}
use Rattle.sp_meets.proofs.view.+add_views.Given as goal

abbrev pub decreases-add_views : goal.decreases-add_views
decreases-add_views l = length l.path.now
