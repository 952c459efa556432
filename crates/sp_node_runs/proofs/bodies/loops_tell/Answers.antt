use Rattle.sp_node_runs.proofs.BodiesSteps.{loops_tell}
use Rattle.sp_node_runs.proofs.bodies.loops_tell.Goals as goal

pub returns : goal.returns
returns c core plan delays = loops_tell core plan delays c.loops_are_in_timeline.ensures c.counters_step.ensures
