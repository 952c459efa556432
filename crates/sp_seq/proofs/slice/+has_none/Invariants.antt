use Rattle.std.proofs.Common.{length}
use Rattle.sp_seq.proofs.slice.+has_none.Given as goal

abbrev pub decreases-has_none : goal.decreases-has_none
decreases-has_none l = length l.parts.now
