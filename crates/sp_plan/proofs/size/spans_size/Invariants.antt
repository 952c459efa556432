use Rattle.std.proofs.Common.{◌≡◌, ◌+◌, map, drop}
use Rattle.sp_core.specs.Numbering.{spans_size}
use Rattle.sp_core.specs.Plain.{plain_span}
use Rattle.sp_plan.proofs.size.spans_size.Given as goal

abbrev pub invariant-loop-span : goal.invariant-loop-span
invariant-loop-span l = l.total + spans_size (map plain_span (drop l.span-index l.spans)) ≡ spans_size (map plain_span l.spans)
