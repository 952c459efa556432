use Rattle.std.proofs.Common.{◌≡◌, ◌*◌, ◌≤◌, drop, map}
use Rattle.sp_tree.specs.PlainTree.{plain_span}
use Rattle.sp_tree.specs.Structure.{slice_lanes}
use Rattle.sp_counts.specs.Capped.{most, capped}
use Rattle.sp_counts.proofs.lanes.slice_lanes.Given as goal

abbrev pub invariant-loop-span : goal.invariant-loop-span
invariant-loop-span l = (l.lanes ≤ most) × (capped (l.lanes * slice_lanes (map plain_span (drop l.span-index l.spans))) ≡ capped (slice_lanes (map plain_span l.spans)))
