use Rattle.std.proofs.Common.{◌≡◌, ◌++◌, drop, map}
use Rattle.sp_core.specs.Plain.{plain_span}
use Rattle.sp_lanes.specs.Within.{spans_in}
use Rattle.sp_unroll.specs.Entries.{within_of}
use Rattle.sp_unroll.proofs.renamed.spans_in.Given as goal

abbrev pub invariant-loop-span : goal.invariant-loop-span
invariant-loop-span l =
    map plain_span l.made.items ++ spans_in (within_of l.order l.w) (map plain_span (drop l.span-index l.spans)) ≡ spans_in (within_of l.order l.w) (map plain_span l.spans)
