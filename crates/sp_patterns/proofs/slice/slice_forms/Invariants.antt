use Rattle.std.proofs.Common.{◌≡◌, map, drop}
use Rattle.sp_core.specs.Plain.{plain_span, plain_mem}
use Rattle.sp_patterns.specs.Indices.{first_form, known_after, slice_forms}
use Rattle.sp_patterns.specs.Ranges.{plain_around}
use Rattle.sp_patterns.proofs.slice.slice_forms.Given as goal

abbrev pub invariant-loop-span : goal.invariant-loop-span
invariant-loop-span l =
    known_after l.row.items (map (first_form (map plain_mem l.mems) (plain_around l.around)) (map plain_span (drop l.span-index l.spans)))
    ≡ slice_forms (map plain_mem l.mems) (plain_around l.around) (map plain_span l.spans)
