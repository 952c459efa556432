use Rattle.std.proofs.Common.{◌≡◌, ◌++◌, map, drop}
use Rattle.sp_core.specs.Numbered.{counters_numbers}
use Rattle.sp_core.specs.Plain.{plain_counter}
use Rattle.sp_schemes.specs.Places.{marks}
use Rattle.sp_schemes.proofs.standing.push_counters.Given as goal

abbrev pub invariant-loop-counter : goal.invariant-loop-counter
invariant-loop-counter l = l.into.items ++ marks (counters_numbers (map plain_counter (drop l.counter-index l.counters))) ≡ l.fn.into.items ++ marks (counters_numbers (map plain_counter l.counters))
