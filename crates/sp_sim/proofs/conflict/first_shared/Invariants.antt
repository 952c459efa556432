use Rattle.std.proofs.Common.{ℕ, ◌<◌, ◌≤◌, slice_index}
use Rattle.sp_sim.proofs.conflict.first_shared.Given as goal

abbrev pub invariant-loop-bank : goal.invariant-loop-bank
invariant-loop-bank l = (b : ℕ) → b < l.bank → (slice_index l.reads b ≤ 1) × (slice_index l.writes b ≤ 1)
