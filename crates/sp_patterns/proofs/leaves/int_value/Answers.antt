use Rattle.std.proofs.Common.{arith}
use Rattle.std.proofs.lemmas.Int.{ints}
use Rattle.sp_patterns.proofs.Values.{small_value, negative_value}
use Rattle.sp_patterns.proofs.leaves.int_value.Goals as goal

pub returns-then-w : goal.returns-then-w
returns-then-w c = let e = small_value c.args.w (omega arith) in omega (arith, ints, e)

pub returns-else-w : goal.returns-else-w
returns-else-w c = let e = negative_value c.args.w (omega arith) in omega (arith, ints, e)
