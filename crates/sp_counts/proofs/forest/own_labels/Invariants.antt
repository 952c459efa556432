use Rattle.std.proofs.Common.{◌≡◌, ℕ, ◌<◌, length, slice_index}
use Rattle.sp_counts.proofs.forest.own_labels.Given as goal

abbrev pub invariant-loop-x : goal.invariant-loop-x
invariant-loop-x l = (length l.labels.items ≡ l.x) × ((k : ℕ) → k < l.x → slice_index l.labels.items k ≡ k)
