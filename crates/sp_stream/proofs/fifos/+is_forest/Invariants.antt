use Rattle.std.proofs.Common.{length}
use Rattle.sp_stream.proofs.fifos.+is_forest.Given as goal

abbrev pub decreases-is_forest : goal.decreases-is_forest
decreases-is_forest l = length l.fifos.now
