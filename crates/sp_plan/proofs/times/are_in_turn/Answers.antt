use Rattle.std.proofs.Common.{◌≢◌, length, map, sym, arith}
use Rattle.std.proofs.lemmas.List.{length-map}
use Rattle.sp_core.specs.CoreParts.{plain_core}
use Rattle.sp_core.specs.Plain.{plain_op}
use Rattle.sp_plan.proofs.Turns.{one_each}
use Rattle.sp_plan.proofs.times.are_in_turn.Goals as goal

pub returns-then-ops-times : goal.returns-then-ops-times
returns-then-ops-times c =
    let differ : length (map plain_op c.args.ops.now) ≢ length c.args.times.now = omega (arith, c.if-ops-times.true, length-map c.args.ops.now plain_op) in
    sym (one_each (plain_core c.args.core.now) 0 (map plain_op c.args.ops.now) c.args.times.now differ)
