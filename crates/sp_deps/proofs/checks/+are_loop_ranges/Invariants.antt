use Rattle.std.proofs.Common.{length}
use Rattle.sp_deps.proofs.checks.+are_loop_ranges.Given as goal

abbrev pub decreases-are_loop_ranges : goal.decreases-are_loop_ranges
decreases-are_loop_ranges l = length l.loops.now
