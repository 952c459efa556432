use Rattle.std.proofs.Common.{◌≡◌, ◌+◌, ◌≤◌, min, drop, map}
use Rattle.sp_core.specs.Numbering.{counters_size}
use Rattle.sp_core.specs.Plain.{plain_counter}
use Rattle.sp_core.proofs.size.count_counters.Given as goal

abbrev pub invariant-loop-counter : goal.invariant-loop-counter
invariant-loop-counter l = (l.total ≤ 536870912) × (min (l.total + counters_size (map plain_counter (drop l.counter-index l.counters))) 536870912 ≡ min (counters_size (map plain_counter l.counters)) 536870912)
