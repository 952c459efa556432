use Rattle.std.proofs.Common.{length}
use Rattle.sp_deps.proofs.class.+have_same_symbols.Given as goal

abbrev pub decreases-have_same_symbols : goal.decreases-have_same_symbols
decreases-have_same_symbols l = length l.a.now
