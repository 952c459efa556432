use Rattle.std.proofs.Common.{◌≡◌, take}
use Rattle.sp_seq.proofs.words.Words.to_vec.Given as goal

abbrev pub invariant-loop-at : goal.invariant-loop-at
invariant-loop-at l = l.all.items ≡ take l.at l.self-inside.words.numbers
