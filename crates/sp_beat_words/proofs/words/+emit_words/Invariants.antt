use Rattle.std.proofs.Common.{length}
use Rattle.sp_beat_words.proofs.words.+emit_words.Given as goal

abbrev pub decreases-emit_words : goal.decreases-emit_words
decreases-emit_words l = length l.rows.now
