use Rattle.std.proofs.Common.{◌≡◌, [], drop, map, slice_index_or}
use Rattle.sp_core.specs.Plain.{plain_counter}
use Rattle.sp_plan.specs.Named.{counters_names}
use Rattle.sp_plan.proofs.named.counters_named.Given as goal

abbrev pub invariant-loop-counter : goal.invariant-loop-counter
invariant-loop-counter l = slice_index_or (counters_names (map plain_counter (drop l.counter-index l.counters))) l.left [] ≡ slice_index_or (counters_names (map plain_counter l.counters)) l.n []
