use Rattle.std.proofs.Common.{◌≡◌, ◌++◌, map, drop}
use Rattle.sp_core.specs.Plain.{plain_span, plain_mem}
use Rattle.sp_patterns.specs.Indices.{range_lengths}
use Rattle.sp_patterns.specs.Ranges.{plain_around}
use Rattle.sp_patterns.proofs.slice.add_lengths.Given as goal

abbrev pub invariant-loop-span : goal.invariant-loop-span
invariant-loop-span l =
    l.lengths.items ++ range_lengths (map plain_mem l.mems) (plain_around l.around) (map plain_span (drop l.span-index l.spans))
    ≡ l.initial.lengths.items ++ range_lengths (map plain_mem l.mems) (plain_around l.around) (map plain_span l.spans)
