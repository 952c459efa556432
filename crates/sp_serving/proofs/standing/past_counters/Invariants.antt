use Rattle.std.proofs.Common.{◌≡◌, map, drop}
use Rattle.sp_core.specs.Numbered.{counters_numbers}
use Rattle.sp_core.specs.Plain.{plain_counter}
use Rattle.sp_serving.specs.Standing.{passed}
use Rattle.sp_serving.proofs.standing.past_counters.Given as goal

abbrev pub invariant-loop-counter : goal.invariant-loop-counter
invariant-loop-counter l = passed l.p (counters_numbers (map plain_counter (drop l.counter-index l.counters))) ≡ passed l.fn.before (counters_numbers (map plain_counter l.counters))
