use Rattle.std.proofs.Common.{◌≡◌, ◌++◌, map, drop}
use Rattle.sp_core.specs.Plain.{plain_counter}
use Rattle.sp_plan.specs.Named.{counters_names}
use Rattle.sp_plan.specs.Runs.{plain_named}
use Rattle.sp_stages.proofs.names.push_counters.Given as goal

abbrev pub invariant-loop-counter : goal.invariant-loop-counter
invariant-loop-counter l = map plain_named l.into.items ++ counters_names (map plain_counter (drop l.counter-index l.counters)) ≡ map plain_named l.initial.into.items ++ counters_names (map plain_counter l.counters)
