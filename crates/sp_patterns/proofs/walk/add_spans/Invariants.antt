use Rattle.std.proofs.Common.{◌≡◌, ◌++◌, map, drop}
use Rattle.sp_core.specs.Plain.{plain_span, plain_mem}
use Rattle.sp_patterns.specs.Indices.{rows_of}
use Rattle.sp_patterns.specs.Patterns.{spans_forms}
use Rattle.sp_patterns.specs.Ranges.{plain_around}
use Rattle.sp_patterns.proofs.walk.add_spans.Given as goal

abbrev pub invariant-loop-span : goal.invariant-loop-span
invariant-loop-span l =
    rows_of l.rows.items ++ spans_forms (map plain_mem l.mems) (plain_around l.around) (map plain_span (drop l.span-index l.spans))
    ≡ rows_of l.initial.rows.items ++ spans_forms (map plain_mem l.mems) (plain_around l.around) (map plain_span l.spans)
