use Rattle.std.proofs.Common.{◌≡◌, ◌++◌, map, drop}
use Rattle.sp_core.specs.Plain.{plain_span}
use Rattle.sp_plan.specs.Named.{spans_names}
use Rattle.sp_plan.specs.Runs.{plain_named}
use Rattle.sp_stages.proofs.names.push_spans.Given as goal

abbrev pub invariant-loop-span : goal.invariant-loop-span
invariant-loop-span l = map plain_named l.into.items ++ spans_names (map plain_span (drop l.span-index l.spans)) ≡ map plain_named l.initial.into.items ++ spans_names (map plain_span l.spans)
