use Rattle.std.proofs.Common.{◌-◌}
use Rattle.sp_meets.proofs.least.+first_between.Given as goal

abbrev pub decreases-first_between : goal.decreases-first_between
decreases-first_between l = l.high - l.low
