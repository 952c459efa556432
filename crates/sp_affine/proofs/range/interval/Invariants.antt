use Rattle.std.proofs.Common.{◌≡◌, take, ◌+ℤ◌}
use Rattle.sp_affine.proofs.Box.{lows, highs, Reach}
use Rattle.sp_affine.proofs.range.interval.Given as goal

abbrev pub invariant-loop-i : goal.invariant-loop-i
invariant-loop-i l = record {
  is_low : l.low ≡ l.form.constant +ℤ lows (take l.i l.form.coefs) (take l.i l.ranges);
  is_high : l.high ≡ l.form.constant +ℤ highs (take l.i l.form.coefs) (take l.i l.ranges);
  low_reach : Reach l.i l.low;
  high_reach : Reach l.i l.high;
}
