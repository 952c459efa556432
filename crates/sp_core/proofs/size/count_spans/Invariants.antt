use Rattle.std.proofs.Common.{◌≡◌, ◌+◌, ◌≤◌, min, drop, map}
use Rattle.sp_core.specs.Numbering.{spans_size}
use Rattle.sp_core.specs.Plain.{plain_span}
use Rattle.sp_core.proofs.size.count_spans.Given as goal

abbrev pub invariant-loop-span : goal.invariant-loop-span
invariant-loop-span l = (l.total ≤ 536870912) × (min (l.total + spans_size (map plain_span (drop l.span-index l.spans))) 536870912 ≡ min (spans_size (map plain_span l.spans)) 536870912)
