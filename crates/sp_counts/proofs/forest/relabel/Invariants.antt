use Rattle.std.proofs.Common.{◌≡◌, ℕ, ◌<◌, ◌≤◌, vec_len, slice_index}
use Rattle.std.specs.Prelude.{◌==◌, if◌then◌else◌}
use Rattle.sp_counts.proofs.forest.relabel.Given as goal

abbrev pub invariant-loop-i : goal.invariant-loop-i
invariant-loop-i l =
    (vec_len l.labels ≡ vec_len l.fn.labels)
    × ((x : ℕ) → x < l.i → slice_index l.labels.items x ≡ (if slice_index l.fn.labels.items x == l.from then l.to else slice_index l.fn.labels.items x))
    × ((x : ℕ) → l.i ≤ x → slice_index l.labels.items x ≡ slice_index l.fn.labels.items x)
