use Rattle.std.proofs.Common.{◌≡◌, ℕ, ◌<◌, Some, None, length, get_or}
use Rattle.sp_packed.proofs.block.write_all.Given as goal

abbrev pub invariant-loop-i : goal.invariant-loop-i
invariant-loop-i g l = (l.cells.at ≡ l.initial.cells.at) × (length l.cells.slots ≡ l.len) × ((k : ℕ) → k < l.i → get_or l.cells.slots k None ≡ Some l.value)
