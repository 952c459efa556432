use Rattle.sp_lane_trees.proofs.Whole.{program_goes}
use Rattle.sp_lane_trees.proofs.outcomes.programs_go.Goals as goal

pub returns : goal.returns
returns c p h = program_goes p (c.nodes_go.ensures _) (c.programs_stand.ensures p h) (c.programs_end.ensures p h) (c.programs_stand_apart.ensures p h) h
