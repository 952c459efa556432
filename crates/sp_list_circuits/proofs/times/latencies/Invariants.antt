use Rattle.std.proofs.Common.{◌≡◌, take}
use Rattle.sp_core.specs.CoreParts.{plain_core}
use Rattle.sp_list_circuits.proofs.Summing.{latencies_of}
use Rattle.sp_list_circuits.proofs.times.latencies.Given as goal

abbrev pub invariant-loop-index : goal.invariant-loop-index
invariant-loop-index l = record { each : l.each.items ≡ latencies_of (plain_core l.core) (take l.index l.ops) }
