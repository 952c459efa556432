use Rattle.std.proofs.Common.{◌≡◌, max, drop, map}
use Rattle.sp_core.specs.CoreParts.{plain_core}
use Rattle.sp_core.specs.Plain.{plain_op}
use Rattle.sp_modulo.specs.Times.{end_of}
use Rattle.sp_plan.specs.Bodies.{latencies}
use Rattle.sp_plan.proofs.times.end_of.Given as goal

abbrev pub invariant-loop-i : goal.invariant-loop-i
invariant-loop-i l = max l.end (end_of (latencies (plain_core l.core) (map plain_op (drop l.i l.ops))) (drop l.i l.times)) ≡ end_of (latencies (plain_core l.core) (map plain_op l.ops)) l.times
