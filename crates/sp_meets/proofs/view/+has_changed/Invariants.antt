use Rattle.std.proofs.Common.{length}
use Rattle.sp_meets.proofs.view.+has_changed.Given as goal

abbrev pub decreases-has_changed : goal.decreases-has_changed
decreases-has_changed l = length l.forms.now
