use Rattle.sp_node_runs.proofs.BodiesRows.{rows_stand}
use Rattle.sp_node_runs.proofs.bodies.rows_stand.Goals as goal

pub returns : goal.returns
returns c core plan delays = rows_stand core plan delays c.beats_in_order.ensures c.loops_are_in_timeline.ensures c.words_go_along.ensures
