use Rattle.std.proofs.Common.{◌≡◌, take}
use Rattle.sp_sim.proofs.memory.Memory.contents.Given as goal

abbrev pub invariant-loop-i : goal.invariant-loop-i
invariant-loop-i l = l.all.items ≡ take l.i l.self-inside.words.numbers
