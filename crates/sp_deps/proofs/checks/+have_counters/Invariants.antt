use Rattle.std.proofs.Common.{length}
use Rattle.sp_deps.proofs.checks.+have_counters.Given as goal

abbrev pub decreases-have_counters : goal.decreases-have_counters
decreases-have_counters l = length l.forms.now
