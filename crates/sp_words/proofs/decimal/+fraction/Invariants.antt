use Rattle.std.proofs.Common.{length}
use Rattle.sp_words.proofs.decimal.+fraction.Given as goal

abbrev pub decreases-fraction : goal.decreases-fraction
decreases-fraction l = length l.digits.now
