use Rattle.std.proofs.Common.{ℕ, ℤ, ◌<◌, get_or}
use Rattle.sp_affine.specs.Interval.{IsCounterRange}
use Rattle.sp_affine.proofs.range.are_counter_ranges.Given as goal

abbrev pub invariant-loop-range : goal.invariant-loop-range
invariant-loop-range l = (k : ℕ) (d : ℤ × ℤ) → k < l.range-index → IsCounterRange (get_or l.ranges k d)
