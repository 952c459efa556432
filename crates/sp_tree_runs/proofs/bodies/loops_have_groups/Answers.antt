use Rattle.sp_tree_runs.proofs.BodiesLanes.{loops_have_groups}
use Rattle.sp_tree_runs.proofs.bodies.loops_have_groups.Goals as goal

pub returns : goal.returns
returns c core plan delays = loops_have_groups core plan delays
