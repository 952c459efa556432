use Rattle.std.proofs.Common.{◌≡◌, take}
use Rattle.sp_node_runs.specs.BodiesGiven.{values_of}
use Rattle.sp_inner_circuits.proofs.counting.values.Given as goal

abbrev pub invariant-loop-index : goal.invariant-loop-index
invariant-loop-index l = record { values : l.values.items ≡ values_of (take l.index l.counters) }
