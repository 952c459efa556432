use Rattle.std.proofs.Common.{◌≡◌, ◌++◌, drop, map}
use Rattle.sp_core.specs.Plain.{plain_counter}
use Rattle.sp_unroll.proofs.copied.copied_counters.Given as goal

abbrev pub invariant-loop-counter : goal.invariant-loop-counter
invariant-loop-counter l = map plain_counter l.made.items ++ map plain_counter (drop l.counter-index l.counters) ≡ map plain_counter l.counters
