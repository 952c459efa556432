use Rattle.std.proofs.Common.{◌≡◌, drop, map}
use Rattle.std.specs.List.{list_all}
use Rattle.sp_core.specs.OperationRules.{is_counter_right}
use Rattle.sp_core.specs.PartsPlain.{core_of, around_of}
use Rattle.sp_core.specs.Plain.{plain_counter}
use Rattle.sp_core.proofs.node_rules.are_counters_right.Given as goal

abbrev pub invariant-loop-counter : goal.invariant-loop-counter
invariant-loop-counter l = list_all (is_counter_right (core_of l.parts) (around_of l.around)) (map plain_counter (drop l.counter-index l.counters)) ≡ list_all (is_counter_right (core_of l.parts) (around_of l.around)) (map plain_counter l.counters)
