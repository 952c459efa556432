use Rattle.std.proofs.Common.{◌≡◌, drop, map}
use Rattle.std.specs.List.{list_all}
use Rattle.sp_core.specs.NodeRules.{is_span_right}
use Rattle.sp_core.specs.PartsPlain.{core_of, around_of}
use Rattle.sp_core.specs.Plain.{plain_span}
use Rattle.sp_core.proofs.node_rules.are_spans_right.Given as goal

abbrev pub invariant-loop-span : goal.invariant-loop-span
invariant-loop-span l = list_all (is_span_right (core_of l.parts) (around_of l.around)) (map plain_span (drop l.span-index l.spans)) ≡ list_all (is_span_right (core_of l.parts) (around_of l.around)) (map plain_span l.spans)
