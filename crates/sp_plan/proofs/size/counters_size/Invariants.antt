use Rattle.std.proofs.Common.{◌≡◌, ◌+◌, map, drop}
use Rattle.sp_core.specs.Numbering.{counters_size}
use Rattle.sp_core.specs.Plain.{plain_counter}
use Rattle.sp_plan.proofs.size.counters_size.Given as goal

abbrev pub invariant-loop-counter : goal.invariant-loop-counter
invariant-loop-counter l = l.total + counters_size (map plain_counter (drop l.counter-index l.counters)) ≡ counters_size (map plain_counter l.counters)
