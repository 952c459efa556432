use Rattle.std.proofs.Common.{◌≡◌, take, map}
use Rattle.std.specs.Global.{Vec}
use Rattle.std.proofs.Common.{ℕ}
use Rattle.sp_sim.specs.Memories.{Words}
use Rattle.sp_sim.proofs.over.contents.Given as goal

abbrev pub invariant-loop-memory : goal.invariant-loop-memory
invariant-loop-memory l = map (λ (v : Vec ℕ). v.items) l.all.items ≡ map (λ (m : Words). m.words) (take l.memory-index l.memories)
