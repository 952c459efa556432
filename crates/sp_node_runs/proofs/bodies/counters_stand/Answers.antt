use Rattle.sp_node_runs.proofs.BodiesInners.{counters_stand}
use Rattle.sp_node_runs.proofs.bodies.counters_stand.Goals as goal

pub returns : goal.returns
returns c = counters_stand
