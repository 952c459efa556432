use Rattle.std.proofs.Common.{◌≡◌, ◌≤◌, ◌^◌, [], drop, map, slice_index_or}
use Rattle.sp_core.specs.Numbering.{spans_size}
use Rattle.sp_core.specs.Plain.{plain_span}
use Rattle.sp_plan.specs.Named.{spans_names}
use Rattle.sp_plan.proofs.named.spans_named.Given as goal

abbrev pub invariant-loop-span : goal.invariant-loop-span
invariant-loop-span l =
    (slice_index_or (spans_names (map plain_span (drop l.span-index l.spans))) l.left [] ≡ slice_index_or (spans_names (map plain_span l.spans)) l.n [])
    × (spans_size (map plain_span (drop l.span-index l.spans)) ≤ 2 ^ 30)
