use Rattle.std.proofs.Common.{◌≡◌, ◌++◌, map, drop}
use Rattle.sp_core.specs.Plain.{plain_counter, plain_mem}
use Rattle.sp_patterns.specs.Indices.{rows_of}
use Rattle.sp_patterns.specs.Patterns.{bounds_forms}
use Rattle.sp_patterns.specs.Ranges.{plain_around}
use Rattle.sp_patterns.proofs.walk.add_bounds.Given as goal

abbrev pub invariant-loop-counter : goal.invariant-loop-counter
invariant-loop-counter l =
    rows_of l.rows.items ++ bounds_forms (map plain_mem l.mems) (plain_around l.around) (map plain_counter (drop l.counter-index l.counters))
    ≡ rows_of l.initial.rows.items ++ bounds_forms (map plain_mem l.mems) (plain_around l.around) (map plain_counter l.counters)
