use Rattle.std.proofs.Common.{◌≡◌, ◌-◌, ◌^◌, min, take}
use Rattle.sp_words.specs.Interface.{word_count}
use Rattle.sp_sim.proofs.given.capped_count.Given as goal

abbrev pub invariant-loop-dim : goal.invariant-loop-dim
invariant-loop-dim l = l.count ≡ min (word_count (take l.dim-index l.dims)) (2 ^ 128 - 1)
