use Rattle.std.proofs.Common.{◌≡◌, map, drop, slice_index_or, None}
use Rattle.sp_patterns.specs.Indices.{index_form, known_after, forms_at}
use Rattle.sp_patterns.proofs.access.forms_at.Given as goal

abbrev pub invariant-loop-place : goal.invariant-loop-place
invariant-loop-place l = known_after l.row.items (map (λ a. index_form l.ranges (slice_index_or l.forms a None)) (drop l.place-index l.args)) ≡ forms_at l.ranges l.forms l.args
