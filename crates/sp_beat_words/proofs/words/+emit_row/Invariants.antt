use Rattle.std.proofs.Common.{length}
use Rattle.sp_beat_words.proofs.words.+emit_row.Given as goal

abbrev pub decreases-emit_row : goal.decreases-emit_row
decreases-emit_row l = length l.wires.now
