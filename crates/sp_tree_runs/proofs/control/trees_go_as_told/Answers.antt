use Rattle.sp_tree_runs.proofs.ControlStarting.{trees_go}
use Rattle.sp_tree_runs.proofs.control.trees_go_as_told.Goals as goal

pub returns : goal.returns
returns c core plan delays =
    trees_go core plan delays (c.branches_of_nodes_work.ensures core plan delays) (c.machines_of_nodes_work.ensures core plan delays) (c.loops_of_nodes_work.ensures core plan delays) (c.parts_fit.ensures core plan delays) (c.stages_take_time.ensures core plan delays)
    (c.sides_come_in_turn.ensures core plan delays) (c.bodies_come_in_turn.ensures core plan delays) (c.stages_come_in_turn.ensures core plan delays)
