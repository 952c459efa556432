use Rattle.std.proofs.Common.{◌≡◌, ◌++◌, map, drop}
use Rattle.sp_core.specs.Plain.{plain_counter, plain_mem}
use Rattle.sp_patterns.specs.Ranges.{range_of}
use Rattle.sp_patterns.proofs.around.add_ranges.Given as goal

abbrev pub invariant-loop-counter : goal.invariant-loop-counter
invariant-loop-counter l =
    l.ranges.items ++ map (range_of (map plain_mem l.mems) l.places) (map plain_counter (drop l.counter-index l.counters))
    ≡ l.initial.ranges.items ++ map (range_of (map plain_mem l.mems) l.places) (map plain_counter l.counters)
