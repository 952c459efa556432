use Rattle.std.proofs.Common.{◌≡◌, drop, map}
use Rattle.sp_core.specs.CoreParts.{plain_core}
use Rattle.sp_core.specs.Plain.{plain_counter}
use Rattle.sp_stream.specs.Proper.{bound_ops, has_array}
use Rattle.sp_stream.proofs.stages.bounds_have_array.Given as goal

abbrev pub invariant-loop-counter : goal.invariant-loop-counter
invariant-loop-counter l = has_array (plain_core l.core) (bound_ops (map plain_counter (drop l.counter-index l.counters))) ≡ has_array (plain_core l.core) (bound_ops (map plain_counter l.counters))
