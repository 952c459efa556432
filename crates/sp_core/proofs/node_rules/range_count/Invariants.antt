use Rattle.std.proofs.Common.{◌≡◌, ◌+◌, ◌≤◌, drop, map}
use Rattle.sp_core.specs.NodeRules.{range_count}
use Rattle.sp_core.specs.Plain.{plain_span}
use Rattle.sp_core.proofs.node_rules.range_count.Given as goal

abbrev pub invariant-loop-span : goal.invariant-loop-span
invariant-loop-span l = (l.count ≤ l.span-index) × (l.count + range_count (map plain_span (drop l.span-index l.spans)) ≡ range_count (map plain_span l.spans))
