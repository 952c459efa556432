use Rattle.std.proofs.Common.{arith}
use Rattle.std.proofs.lemmas.Int.{ints, to_z-of_z}
use Rattle.sp_seq.proofs.PlaceLemmas.{index_small, index_negative}
use Rattle.sp_seq.proofs.slice.int_value.Goals as goal

pub returns-then-word : goal.returns-then-word
returns-then-word c = let e = index_small c.args.word (omega arith) in omega (arith, ints, e)

pub returns-else-word : goal.returns-else-word
returns-else-word c = let e = index_negative c.args.word (omega arith) c.requires in omega (arith, ints, to_z-of_z, e)
