use Rattle.std.proofs.Common.{◌≡◌, ◌++◌, drop, map}
use Rattle.sp_core.specs.Plain.{plain_counter}
use Rattle.sp_lanes.specs.Within.{counters_in}
use Rattle.sp_unroll.specs.Entries.{within_of}
use Rattle.sp_unroll.proofs.renamed.counters_in.Given as goal

abbrev pub invariant-loop-counter : goal.invariant-loop-counter
invariant-loop-counter l =
    map plain_counter l.made.items ++ counters_in (within_of l.order l.w) (map plain_counter (drop l.counter-index l.counters)) ≡ counters_in (within_of l.order l.w) (map plain_counter l.counters)
