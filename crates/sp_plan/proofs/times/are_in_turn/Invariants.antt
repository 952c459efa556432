use Rattle.std.proofs.Common.{◌≡◌, ◌≤◌, ◌*◌, drop, map}
use Rattle.sp_core.specs.CoreParts.{plain_core}
use Rattle.sp_core.specs.Plain.{plain_op}
use Rattle.sp_plan.specs.Bodies.{are_in_turn}
use Rattle.sp_plan.proofs.times.are_in_turn.Given as goal

abbrev pub invariant-loop-i : goal.invariant-loop-i
invariant-loop-i l = (are_in_turn (plain_core l.core) l.begin (map plain_op (drop l.i l.ops)) (drop l.i l.times) ≡ are_in_turn (plain_core l.core) 0 (map plain_op l.ops) l.times) × (l.begin ≤ 4 * l.i)
