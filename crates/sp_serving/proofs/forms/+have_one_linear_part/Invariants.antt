use Rattle.std.proofs.Common.{length}
use Rattle.sp_serving.proofs.forms.+have_one_linear_part.Given as goal

abbrev pub decreases-have_one_linear_part : goal.decreases-have_one_linear_part
decreases-have_one_linear_part l = length l.f.now
