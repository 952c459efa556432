use Rattle.std.proofs.Common.{◌≡◌, drop, map}
use Rattle.std.specs.List.{list_any}
use Rattle.sp_core.specs.Declarations.{is_among}
use Rattle.sp_core.specs.Plain.{plain_counter}
use Rattle.sp_plan.specs.Named.{counters_names}
use Rattle.sp_plan.proofs.naming.counters_use.Given as goal

abbrev pub invariant-loop-counter : goal.invariant-loop-counter
invariant-loop-counter l = list_any (is_among l.m) (counters_names (map plain_counter (drop l.counter-index l.counters))) ≡ list_any (is_among l.m) (counters_names (map plain_counter l.counters))
