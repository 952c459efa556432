use Rattle.std.proofs.Common.{length}
use Rattle.sp_seq.proofs.slice.+word_places.Given as goal

abbrev pub decreases-word_places : goal.decreases-word_places
decreases-word_places l = length l.parts.now
