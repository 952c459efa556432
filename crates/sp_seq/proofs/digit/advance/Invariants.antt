use Rattle.sp_seq.proofs.DigitLemmas.{AdvanceGo}
use Rattle.sp_seq.proofs.digit.advance.Given as goal

abbrev pub invariant-carry : goal.invariant-carry
invariant-carry l = AdvanceGo l.fn.digits l.digits l.k

abbrev pub decreases-carry : goal.decreases-carry
decreases-carry l = l.k
