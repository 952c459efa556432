use Rattle.std.proofs.Common.{arith}
use Rattle.sp_listing.proofs.WordLemmas.{no_dims}
use Rattle.sp_listing.proofs.cells.ports.dimensions.Goals as goal

pub returns-in_default : goal.returns-in_default
returns-in_default c = no_dims c.args.words.now c.loop-word.word-index (omega arith) c.in_default.ensures
