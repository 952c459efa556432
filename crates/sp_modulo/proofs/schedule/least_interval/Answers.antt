use Rattle.std.proofs.Common.{arith}
use Rattle.sp_modulo.proofs.Intervals.{none_up_to}
use Rattle.sp_modulo.proofs.schedule.least_interval.Goals as goal

pub loop-low-preserved : goal.loop-low-preserved
loop-low-preserved c = record {
  some = omega arith;
  ordered = omega arith;
  below = none_up_to _ _ _ (c.in_ok-is_possible.ensures.no c.if-branch.false);
  possible = c.loop-low.invariant.possible;
}
