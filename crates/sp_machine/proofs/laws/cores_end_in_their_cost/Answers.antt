use Rattle.std.proofs.Common.{◌≤◌, arith}
use Rattle.sp_core.specs.Cost.{cost}
use Rattle.sp_core.specs.Shape.{shape_of}
use Rattle.sp_machine.proofs.Costs.{node_under}
use Rattle.sp_machine.proofs.CountedRuns.{node_counted}
use Rattle.sp_machine.specs.Timeline.{core_timed}
use Rattle.sp_machine.specs.Told.{plan_timings}
use Rattle.sp_machine.proofs.laws.cores_end_in_their_cost.Goals as goal

pub returns : goal.returns
returns c core plan delays d waited planned turns scope s t h e =
    let a : (core_timed core plan delays h).took ≤ cost core (plan_timings plan) d core.root 0 (shape_of core.root h) = node_under core plan delays d waited core.root 0 0 _ _ h planned (node_counted core turns core.root scope s t h e) in
    omega arith
