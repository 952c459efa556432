use Rattle.std.proofs.Common.{◌≡◌, ℕ, ◌<◌, length, get_or}
use Rattle.sp_sim.proofs.memory.Memory.of.Given as goal

abbrev pub invariant-loop-i : goal.invariant-loop-i
invariant-loop-i l = (l.memory.width ≡ l.width) × (length l.memory.words ≡ length l.contents) × ((k : ℕ) → k < l.i → get_or l.memory.words k 0 ≡ get_or l.contents k 0)
